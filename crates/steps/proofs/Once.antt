-- Any two results that a public function's contract allows coincide (`Coincide` of `rules`).
use Prim.Native.Nat.{ℕ}
use mathlib.Core.Path.{◌≡◌, sym, ap, ◌∙◌}
use Rattle.rules.specs.Coincide.{Coincide, AnyTwo}
use Rattle.rules.specs.State.{Book}
use Rattle.rules.specs.Lent.{SameBook}
use Rattle.rules.proofs.Coincide.{one, joined, from_each, first}
use Rattle.rules.proofs.Lent.{same_tables}
use Rattle.pages.specs.Writing.{Page}
use Rattle.pages.specs.Lent.{SamePage}
use Rattle.steps.specs.Step.{Replied, replied_of}
use Rattle.steps.specs.contracts.tally.raise as raise
use Rattle.steps.specs.contracts.step.step as step
use Rattle.steps.specs.contracts.step.counted_step as counted-step

pub raise_once : Coincide raise.ended (λ M 𝓤 𝓛. raise.clauses 𝓛)
raise_once w x g = first w

-- ---- step: the reply's number, the book, and the page
stepped_once : (y : Replied) {n n' : ℕ} {b b' : Book} {p p' : Page} → replied_of n b p ≡ y → replied_of n' b' p' ≡ y → (n ≡ n') × (b ≡ b') × (p ≡ p')
stepped_once y e f =
    let s = e ∙ sym f in
    (ap (λ (z : Replied). z.number) s, ap (λ (z : Replied). z.book) s, ap (λ (z : Replied). z.text) s)

pub step_once : AnyTwo step.ended (λ M 𝓤 𝓛. step.clauses 𝓛) (λ x. (x.result ≡ x.result') × SameBook x.left.0 x.left'.0 × SamePage x.left.1.0 x.left'.1.0)
step_once w x g =
    from_each w (joined w (one w) (joined w (one w) (one w))) (joined w (one w) (joined w (one w) (one w))) (λ p q.
    let s = stepped_once _ p.0 q.0 in
    (s.0, (s.1, same_tables p.1.0 q.1.0), (s.2, q.1.1 ∙ sym p.1.1)))

-- ---- counted_step: the book, the page and the tally
pub counted_step_once : AnyTwo counted-step.ended (λ M 𝓤 𝓛. counted-step.clauses 𝓛) (λ x. SameBook x.left.0 x.left'.0 × SamePage x.left.1.0 x.left'.1.0 × (x.left.1.1.1.0 ≡ x.left'.1.1.1.0))
counted_step_once w x g =
    from_each w (joined w (one w) (joined w (one w) (joined w (one w) (one w)))) (joined w (one w) (joined w (one w) (joined w (one w) (one w)))) (λ p q.
    let s = stepped_once _ p.0 q.0 in
    ((s.1, same_tables p.1.0 q.1.0), (s.2, q.1.1.0 ∙ sym p.1.1.0), p.1.1.1 ∙ sym q.1.1.1))
