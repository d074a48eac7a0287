use Rattle.mg_names.proofs.WordLists.{word_ahead, one_more, still_ahead, shorter, read_letters, read_causes}
use Rattle.mg_names.proofs.declaring.read_words.Goals as goal

pub word-requires : goal.word-requires
word-requires c = word_ahead c.members.cursor c.members.invariant.ahead (λ e. let k = c.is.ensures.1 e in let t = c.members-test.true in cc)

pub members-smaller : goal.members-smaller
members-smaller c =
    shorter c.members.cursor c.word.new.cursor c.go_on.new.cursor c.members.invariant.ahead (λ e. let k = c.is.ensures.1 e in let t = c.members-test.true in cc) c.in_ok-next.ensures.rest c.go_on.ensures

pub members-preserved : goal.members-preserved
members-preserved c = record {
  ahead = still_ahead c.members.cursor c.word.new.cursor c.go_on.new.cursor c.members.invariant.ahead (λ e. let k = c.is.ensures.1 e in let t = c.members-test.true in cc) c.in_ok-next.ensures.rest c.go_on.ensures;
  read = λ ws e. one_more c.args.home.now ws c.args.found.now c.members.found c.word.new.found c.members.words c.push.new.self c.members.cursor c.word.new.cursor c.go_on.new.cursor c.in_ok-next.next (c.members.invariant.read ws e)
      (λ e. let k = c.is.ensures.1 e in let t = c.members-test.true in cc) c.in_ok-next.ensures.letters c.in_ok-next.ensures.rest c.in_ok-next.ensures.causes c.in_ok-push.ensures.ok c.go_on.ensures;
}

pub returns-clause-letters : goal.returns-clause-letters
returns-clause-letters c ws e = read_letters c.args.home.now ws c.args.found.now c.members.found c.members.words c.members.cursor (c.members.invariant.read ws e) (c.is.ensures.0 c.members-test.false)

pub returns-clause-causes : goal.returns-clause-causes
returns-clause-causes c ws e = read_causes c.args.home.now ws c.args.found.now c.members.found c.members.words c.members.cursor (c.members.invariant.read ws e) (c.is.ensures.0 c.members-test.false)
