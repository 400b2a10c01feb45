-- Demand 3 is not empty: for each of its statements two sessions, from two empty books, of which the premise holds, with what both show; and what they do not show, which differs. All by computation.
use mathlib.Core.Path.{◌≡◌, refl, sym, ◌∙◌}
use mathlib.Core.Bool.{true, false}
use mathlib.Core.List.{[], ◌∷◌, map}
use Rattle.rules.specs.Lists.{all}
use Rattle.rules.specs.State.{Empty, view, empty_book}
use Rattle.rules.specs.Replies.{plain}
use Rattle.rules.specs.Effects.{balance, holder}
use Rattle.rules.specs.Answer.{answer}
use Rattle.rules.specs.Runs.{run}
use Rattle.rules.specs.Views.{outside_of, seen_outside, outside_view, names_member, seen_by, shown_to, member_view, asks, has_room}
use Rattle.rules.proofs.Compute.{compute}
use Rattle.promises.proofs.Base.{blank_empty}
use Rattle.promises.specs.Demand3Examples.{written_on, one_pays, two_pay, both_seen, both_show, both_outside, another_pays, another_grants, both_seen_by, both_show_member, asked, crowded, both_reply, crowded_reply}

-- both books are empty
pub empty_blank : Empty empty_book
empty_blank = blank_empty

pub empty_written : Empty written_on
unfolding written_on
empty_written = record { desk = refl; inbox = refl; outbox = refl; history = refl }

-- ---- the outside
pub outside_sees : (seen_outside empty_book one_pays ≡ both_seen) × (seen_outside written_on two_pay ≡ both_seen)
unfolding compute seen_outside outside_of written_on one_pays two_pay both_seen
outside_sees = (refl, refl)

pub outside-alike : seen_outside empty_book one_pays ≡ seen_outside written_on two_pay
outside-alike = outside_sees.0 ∙ sym outside_sees.1

pub outside_shows : (outside_view empty_book one_pays ≡ both_show) × (outside_view written_on two_pay ≡ both_show)
unfolding compute outside_view written_on one_pays two_pay both_show
outside_shows = (refl, refl)

-- and the outside part of both books: what was deposited and settled of each asset, the last deposit number, the next nonce, the payments in flight and waiting
pub outside_agrees : ((view (run empty_book one_pays)).outside ≡ both_outside) × ((view (run written_on two_pay)).outside ≡ both_outside)
unfolding compute written_on one_pays two_pay both_outside
outside_agrees = (refl, refl)

-- what the outside does not see: the balances of members 2 and 4 in asset 3
pub outside_hides : map (λ m. balance (view (run empty_book one_pays)).balances m 3) (2 ∷ 4 ∷ []) ∷ map (λ m. balance (view (run written_on two_pay)).balances m 3) (2 ∷ 4 ∷ []) ∷ []
    ≡ (80 ∷ 0 ∷ []) ∷ (30 ∷ 50 ∷ []) ∷ []
unfolding compute written_on one_pays two_pay
outside_hides = refl

-- ---- member 2
pub member_sees : (seen_by 2 empty_book another_pays ≡ both_seen_by) × (seen_by 2 written_on another_grants ≡ both_seen_by)
unfolding compute seen_by names_member written_on another_pays another_grants both_seen_by
member_sees = (refl, refl)

pub member_alike : seen_by 2 empty_book another_pays ≡ seen_by 2 written_on another_grants
member_alike = member_sees.0 ∙ sym member_sees.1

pub member_shows : (member_view 2 empty_book another_pays ≡ both_show_member) × (member_view 2 written_on another_grants ≡ both_show_member)
unfolding compute shown_to written_on another_pays another_grants both_show_member
member_shows = (refl, refl)

-- what member 2 does not see: the balance of member 4 in asset 3, and who holds domain 6
pub member_hides : map (λ b. balance (view b).balances 4 3 ∷ holder (view b).holders 6 ∷ []) (run empty_book another_pays ∷ run written_on another_grants ∷ [])
    ≡ (150 ∷ 1 ∷ []) ∷ (190 ∷ 4 ∷ []) ∷ []
unfolding compute written_on another_pays another_grants
member_hides = refl

-- ---- member 2's next call
-- each is the member's own, and both books have room
pub next-asked : (all (asks 2) asked ≡ true) × (has_room (view (run empty_book another_pays)) ≡ true) × (has_room (view (run written_on another_grants)) ≡ true)
unfolding compute asks asked has_room written_on another_pays another_grants
next-asked = (refl, refl, refl)

pub next-replies : (map (λ c. (answer (run empty_book another_pays) c).reply) asked ≡ map plain both_reply) × (map (λ c. (answer (run written_on another_grants) c).reply) asked ≡ map plain both_reply)
unfolding compute asked both_reply written_on another_pays another_grants
next-replies = (refl, refl)

-- without room, whoever's payments fill the outbox: every reply but the one that says so is the same
pub crowded-alike : (seen_by 2 empty_book crowded ≡ both_seen_by) × (has_room (view (run empty_book crowded)) ≡ false)
unfolding compute seen_by names_member has_room crowded another_pays both_seen_by
crowded-alike = (refl, refl)

pub crowded-replies : map (λ c. (answer (run empty_book crowded) c).reply) asked ≡ map plain crowded_reply
unfolding compute asked crowded_reply crowded another_pays
crowded-replies = refl
