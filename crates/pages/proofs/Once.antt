-- Any two results that a public function's contract allows coincide (`Coincide` of `rules`): each contract is an equation of what is answered, or of the page that is made or left, and says that its buffer is the one that was lent. Of a slice that is answered, its bytes coincide: where they lie no contract says.
use mathlib.Core.Path.{◌≡◌, sym, ◌∙◌}
use Rattle.rules.specs.Coincide.{Coincide, AnyTwo}
use Rattle.rules.proofs.Told.{once}
use Rattle.rules.proofs.Coincide.{Says, one, joined, from_each, both, value}
use base.Logic.{sep}
use borrow.Fn.World.{World}
use contract.Monad.{conj, fact}
use Rattle.pages.specs.Lent.{SamePage}
use Rattle.pages.specs.contracts.Page.new as new
use Rattle.pages.specs.contracts.Page.put_byte as put_byte
use Rattle.pages.specs.contracts.Page.put_bytes as put_bytes
use Rattle.pages.specs.contracts.Page.put_decimal as put_decimal
use Rattle.pages.specs.contracts.Page.put_value as put_value
use Rattle.pages.specs.contracts.Page.put_line_feed as put_line_feed
use Rattle.pages.specs.contracts.Page.room as room
use Rattle.pages.specs.contracts.Page.written as written
use Rattle.pages.specs.contracts.Page.clear as clear

-- the equation for a page, and the buffer of the one that was lent
pub same_page : (w : World) {A G : Type 0} {y p q : A} {g h k : G} → Says w (conj w.𝓤 (sep w.𝓤 (fact w.𝓤 (p ≡ y)) (fact w.𝓤 (h ≡ g))) (sep w.𝓤 (fact w.𝓤 (q ≡ y)) (fact w.𝓤 (k ≡ g)))) ((p ≡ q) × (k ≡ h))
same_page w = from_each w (joined w (one w) (one w)) (joined w (one w) (one w)) (λ p q. (p.0 ∙ sym q.0, q.1 ∙ sym p.1))

pub new_once : AnyTwo new.ended (λ M 𝓤 𝓛. new.clauses 𝓛) (λ x. SamePage x.result x.result')
new_once w x g = same_page w

pub put_byte_once : AnyTwo put_byte.ended (λ M 𝓤 𝓛. put_byte.clauses 𝓛) (λ x. SamePage x.left.0 x.left'.0)
put_byte_once w x g = same_page w

pub put_bytes_once : AnyTwo put_bytes.ended (λ M 𝓤 𝓛. put_bytes.clauses 𝓛) (λ x. SamePage x.left.0 x.left'.0)
put_bytes_once w x g = same_page w

pub put_decimal_once : AnyTwo put_decimal.ended (λ M 𝓤 𝓛. put_decimal.clauses 𝓛) (λ x. SamePage x.left.0 x.left'.0)
put_decimal_once w x g = same_page w

pub put_value_once : AnyTwo put_value.ended (λ M 𝓤 𝓛. put_value.clauses 𝓛) (λ x. SamePage x.left.0 x.left'.0)
put_value_once w x g = same_page w

pub put_line_feed_once : AnyTwo put_line_feed.ended (λ M 𝓤 𝓛. put_line_feed.clauses 𝓛) (λ x. SamePage x.left.0 x.left'.0)
put_line_feed_once w x g = same_page w

pub room_once : Coincide room.ended (λ M 𝓤 𝓛. room.clauses 𝓛)
room_once w x g = value w

pub written_once : AnyTwo written.ended (λ M 𝓤 𝓛. written.clauses 𝓛) (λ x. x.result.now ≡ x.result'.now)
written_once w x g = both w (once _)

pub clear_once : AnyTwo clear.ended (λ M 𝓤 𝓛. clear.clauses 𝓛) (λ x. SamePage x.left.0 x.left'.0)
clear_once w x g = same_page w
