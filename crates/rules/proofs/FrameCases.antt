-- Every clause of the frame bites: a book that breaks it gets BadBook, and the sample that it was made of does not. By computation.
use mathlib.Core.Path.{◌≡◌, refl}
use mathlib.Core.Bool.{true, ◌&&◌}
use mathlib.Core.List.{[], ◌∷◌, ◌++◌}
use lib.Dec.{eqb}
use Rattle.rules.specs.Lists.{all}
use Rattle.rules.specs.Answer.{reply_number}
use Rattle.rules.specs.Cases.{sign, trace}
use Rattle.rules.specs.FrameCases.{sample, out_of_frame, too_many_rows, bad_histories}
use Rattle.rules.proofs.Compute.{compute}

-- the sample is in frame, its history too
pub sample_in_frame : (reply_number sample (sign 1 1) ∷ reply_number sample (trace 0) ∷ []) ≡ 0 ∷ 0 ∷ []
unfolding compute sample
sample_in_frame = refl

-- out of frame: 2, for a call that asks nothing of the rows and for a trace
pub each_clause_bites : all (λ b. eqb (reply_number b (sign 1 1)) 2 && eqb (reply_number b (trace 0)) 2) (out_of_frame ++ too_many_rows) ≡ true
unfolding compute sample out_of_frame too_many_rows
each_clause_bites = refl

-- a bad history: 2 for a trace, and no matter for a sign request
pub each_record_bites : all (λ b. eqb (reply_number b (sign 1 1)) 0 && eqb (reply_number b (trace 0)) 2) bad_histories ≡ true
unfolding compute sample bad_histories
each_record_bites = refl
