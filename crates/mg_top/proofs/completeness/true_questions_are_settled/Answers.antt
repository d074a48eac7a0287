use Rattle.mg_top.proofs.Settling.{first_number, settled_from}
use Rattle.mg_top.proofs.completeness.true_questions_are_settled.Goals as goal

pub returns : goal.returns
returns c workers policy script output legal place question ask there asked meaning =
    let number = first_number workers policy script output legal place question ask there asked meaning in
    (number.0, number.1, λ step new reaching. settled_from workers policy script output legal place ask number.0 step new asked number.1 reaching)
