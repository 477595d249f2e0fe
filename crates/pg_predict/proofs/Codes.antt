-- The codes of conditions as texts.
use Rattle.std.proofs.Common.{◌≡◌, refl}
use Rattle.std.specs.Prelude.{codes}
use Rattle.std.specs.Fmt.{digits}
use Rattle.pg_predict.specs.Findings.{code_text}

pub code_1 : codes "C1" ≡ code_text 1
unfolding digits
code_1 = refl

pub code_2 : codes "C2" ≡ code_text 2
unfolding digits
code_2 = refl

pub code_3 : codes "C3" ≡ code_text 3
unfolding digits
code_3 = refl

pub code_4 : codes "C4" ≡ code_text 4
unfolding digits
code_4 = refl

pub code_5 : codes "C5" ≡ code_text 5
unfolding digits
code_5 = refl

pub code_6 : codes "C6" ≡ code_text 6
unfolding digits
code_6 = refl

pub code_7 : codes "C7" ≡ code_text 7
unfolding digits
code_7 = refl

pub code_8 : codes "C8" ≡ code_text 8
unfolding digits
code_8 = refl

pub code_9 : codes "C9" ≡ code_text 9
unfolding digits
code_9 = refl

pub code_11 : codes "C11" ≡ code_text 11
unfolding digits
code_11 = refl
