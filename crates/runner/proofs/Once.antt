-- Any two results that a public function's contract allows coincide (`Coincide` of `rules`), and what a contract leaves open on purpose.
use Prim.Native.Nat.{ℕ}
use mathlib.Core.Path.{◌≡◌, sym, ap, ◌∙◌}
use mathlib.Core.List.{List}
use Rattle.rules.specs.Coincide.{Two, Coincide, AnyTwo}
use Rattle.rules.specs.State.{empty_book}
use Rattle.rules.specs.Lent.{lent_book, SameTables}
use Rattle.rules.proofs.Told.{once}
use Rattle.rules.proofs.Lent.{same_tables}
use Rattle.rules.proofs.Coincide.{one, joined, from_each, both, value, first}
use Rattle.pages.specs.Lent.{SamePage}
use Rattle.runner.specs.Machine.{Machine, Progress}
use Rattle.runner.specs.Kept.{Kept, RunSome}
use Rattle.runner.specs.contracts.feed.run_some as run-some
use Rattle.runner.specs.contracts.feed.close as close
use Rattle.runner.specs.contracts.hold.Held.new as none-held
use Rattle.runner.specs.contracts.hold.Held.is_empty as is-empty
use Rattle.runner.specs.contracts.hold.Held.extend as extend
use Rattle.runner.specs.contracts.hold.Held.as_slice as as-slice
use Rattle.runner.specs.contracts.session.Session.new as new
use Rattle.runner.specs.contracts.session.Session.is_stopped as is-stopped
use Rattle.runner.specs.contracts.session.empty_desk as empty-desk

-- ---- run_some: the session with the bytes that are held, every number of the book, and every byte of the page; they lie in the desk, the tables and the buffer that were lent. Left open: how far it came, but that it moves where there is room (Moves): it stops where the page has no room for the longest reply. However far that is, it fixes the rest, and the bytes from there on are fed by the next call
pub record SameRun (x : Two run-some.ended) : Type 0 where
  pub session : x.left.0 ≡ x.left'.0
  pub book : lent_book x.left.1.0 ≡ lent_book x.left'.1.0
  pub tables : SameTables x.left.1.0 x.left'.1.0
  pub page : SamePage x.left.1.1.0 x.left'.1.1.0

abbrev pub OneRun : Two run-some.ended → Type 0
OneRun x = x.result ≡ x.result' → SameRun x

fed_once : (b : Kept) (chunk : List ℕ) {n n' : ℕ} {k k' : Kept} → RunSome b chunk n k → RunSome b chunk n' k' → n ≡ n' → (k.machine ≡ k'.machine) × (k.page ≡ k'.page)
fed_once b chunk p q e = (p.machine ∙ sym (rw (← e) at q.machine), p.page ∙ sym (rw (← e) at q.page))

abbrev progress_of : Machine → Progress
progress_of m = record { tally = m.tally; line = m.line; held = m.held }

pub run_some_once : AnyTwo run-some.ended (λ M 𝓤 𝓛. run-some.clauses 𝓛) OneRun
run_some_once w x g =
    from_each w (joined w (one w) (joined w (one w) (one w))) (joined w (one w) (joined w (one w) (one w))) (λ p q e.
    let s = fed_once _ _ p.0 q.0 e in
    record {
      session = ap progress_of s.0;
      book = ap (λ (m : Machine). m.book) s.0;
      tables = same_tables p.1.0 q.1.0;
      page = (s.1, q.1.1 ∙ sym p.1.1);
    })

-- ---- close, and the beginning
pub close_once : AnyTwo close.ended (λ M 𝓤 𝓛. close.clauses 𝓛) (λ x. SamePage x.left.1.0 x.left'.1.0)
close_once w x g =
    from_each w (joined w (one w) (one w)) (joined w (one w) (one w)) (λ p q.
    let s = p.0 empty_book in
    let t = q.0 empty_book in
    (once _ s.page t.page, q.1 ∙ sym p.1))

pub new_once : Coincide new.ended (λ M 𝓤 𝓛. new.clauses 𝓛)
new_once w x g = value w

pub is_stopped_once : Coincide is-stopped.ended (λ M 𝓤 𝓛. is-stopped.clauses 𝓛)
is_stopped_once w x g = value w

pub empty_desk_once : Coincide empty-desk.ended (λ M 𝓤 𝓛. empty-desk.clauses 𝓛)
empty_desk_once w x g = value w

-- ---- what is held of a line: the bytes that belong to it. Those of its buffer past them no contract sees
pub none_held_once : Coincide none-held.ended (λ M 𝓤 𝓛. none-held.clauses 𝓛)
none_held_once w x g = value w

pub is_empty_once : Coincide is-empty.ended (λ M 𝓤 𝓛. is-empty.clauses 𝓛)
is_empty_once w x g = value w

pub as_slice_once : AnyTwo as-slice.ended (λ M 𝓤 𝓛. as-slice.clauses 𝓛) (λ x. x.result.now ≡ x.result'.now)
as_slice_once w x g = both w (once _)

pub extend_once : Coincide extend.ended (λ M 𝓤 𝓛. extend.clauses 𝓛)
extend_once w x g = first w
