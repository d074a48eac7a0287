use Rattle.std.proofs.Common.{◌≡◌, ◌∷◌, [], ◌<◌, ◌-◌, List, ℤ, drop, take, length, refl, get_or, subst, sym, arith}
use Rattle.std.proofs.lemmas.Option.{slice_get-get_or}
use Rattle.mg_rules.specs.declared.index.Node.{Node}
use Rattle.mg_rules.specs.First.{IsLeastEnd}
use Rattle.mg_rules.specs.Index.{IsBelow, Reaches}
use Rattle.mg_rules.proofs.Trees.{positive, drop_whole, drop_back, cut_back, reached_within, read_least, end_root, end_next, end_stop}
use Rattle.mg_rules.proofs.index.look_up.Goals as goal

abbrev none : Node
none = record { least = 0; below = [] }

pub loop-at-init : goal.loop-at-init
loop-at-init c =
    let nodes = c.args.nodes.now in
    let word = c.args.word.now in
    let least = (get_or nodes 0 none).least in
    record {
      within = omega arith;
      reached = subst (λ (t : List ℤ). Reaches nodes t 0) (sym (drop_whole word)) refl;
      found = λ rules index. subst (λ (t : List ℤ). IsLeastEnd rules t least) (sym (drop_whole word))
          (end_root rules least (read_least rules nodes [] 0 (get_or nodes 0 none) index refl (slice_get-get_or nodes 0 none index.root)));
    }

pub returns-then-node-eq0 : goal.returns-then-node-eq0
returns-then-node-eq0 c =
    let nodes = c.args.nodes.now in
    let word = c.args.word.now in
    let at = c.loop-at.at in
    let now = c.loop-at.invariant in
    let x = c.index-word-at.result in
    let below : IsBelow nodes c.loop-at.node x 0 = subst (IsBelow nodes c.loop-at.node x) c.if-node-eq0.true c.below-node.ensures in
    λ rules index. subst (λ (t : List ℤ). IsLeastEnd rules t c.loop-at.found) (cut_back word at x c.loop-at-test.true now.within c.index-word-at.is)
    (end_stop rules nodes (take (at - 1) word) x (drop at word) c.loop-at.node c.loop-at.found index now.reached below (now.found rules index))

pub bounds-nodes-node : goal.bounds-nodes-node
bounds-nodes-node c =
    let now = c.loop-at.invariant in
    let next = c.below-node.result in
    reached_within c.requires.0 c.args.nodes.now (c.index-word-at.result ∷ drop c.loop-at.at c.args.word.now) next c.requires.1
    (c.loop-at.node, now.reached, c.below-node.ensures, positive next c.if-node-eq0.false)

pub offset_bounds-nodes-node : goal.offset_bounds-nodes-node
offset_bounds-nodes-node c =
    let below : c.below-node.result < length c.args.nodes.now = bounds-nodes-node c in
    omega (arith, below, c.element_fits.fits)

pub loop-at-preserved : goal.loop-at-preserved
loop-at-preserved c =
    let nodes = c.args.nodes.now in
    let word = c.args.word.now in
    let at = c.loop-at.at in
    let now = c.loop-at.invariant in
    let x = c.index-word-at.result in
    let next = c.below-node.result in
    let number = (get_or nodes next none).least in
    let cut = drop_back word at x c.loop-at-test.true now.within c.index-word-at.is in
    let new : Reaches nodes (x ∷ drop at word) next = (c.loop-at.node, now.reached, c.below-node.ensures, positive next c.if-node-eq0.false) in
    let below = reached_within c.requires.0 nodes (x ∷ drop at word) next c.requires.1 new in
    record {
      within = omega (arith, now.within);
      reached = subst (λ (t : List ℤ). Reaches nodes t next) (sym cut) new;
      found = λ rules index. subst (λ (t : List ℤ). IsLeastEnd rules t c.lesser-found.result) (sym cut)
          (end_next rules x (drop at word) c.loop-at.found number c.lesser-found.result (now.found rules index)
          (read_least rules nodes (x ∷ drop at word) next (get_or nodes next none) index new (slice_get-get_or nodes next none below)) c.lesser-found.ensures);
    }

pub returns : goal.returns
returns c =
    let word = c.args.word.now in
    let zero : c.loop-at.at ≡ 0 = omega (arith, c.loop-at-test.false) in
    λ rules index. subst (λ t. IsLeastEnd rules (drop t word) c.loop-at.found) zero (c.loop-at.invariant.found rules index)
