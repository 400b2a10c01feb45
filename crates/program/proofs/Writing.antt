-- A text written in parts: what the writer holds, where it is known, grows by all of it or by a beginning.
use Rattle.std.proofs.Common.{ℕ, ◌-◌, ◌≡◌, List, [], ◌++◌, Bool, length, take, drop, sym, ap, subst, ◌∙◌, append_assoc, append-nil, take-append-drop, Option}
use Rattle.std.proofs.lemmas.List.{take_rest}
use Rattle.std.specs.Io.KnownBytes.{Appends}
use Rattle.std.proofs.KnownBytes.{Appends-trans}
use Rattle.program.specs.Turns.{AppendsPart, Wrote}

-- of a text that begins with another, a beginning of that one
pub part_wider : (a b : Option (List ℕ)) (text more : List ℕ) {all : List ℕ} → text ++ more ≡ all → AppendsPart a b text → AppendsPart a b all
part_wider a b text more e p =
    record { put = p.put; left = p.left ++ more; cut = sym (append_assoc p.put p.left more) ∙ ap (λ t. t ++ more) p.cut ∙ e; grown = p.grown }

-- all of a text
pub wrote_all : (a b : Option (List ℕ)) (text : List ℕ) (w : Bool) → Appends a b text → Wrote a b text w
wrote_all a b text w h = record { part = record { put = text; left = []; cut = append-nil text; grown = h }; all = λ e. h }

module _ (a b c : Option (List ℕ)) (text next : List ℕ) {all : List ℕ} (e : text ++ next ≡ all) (h : Appends a b text) where
  -- after a text, a beginning of the next
  pub part_then : AppendsPart b c next → AppendsPart a c all
  part_then p =
      record {
        put = text ++ p.put;
        left = p.left;
        cut = append_assoc text p.put p.left ∙ ap (λ t. text ++ t) p.cut ∙ e;
        grown = Appends-trans a b c text p.put h p.grown;
      }

  -- after a text, the next
  pub wrote_then : (w : Bool) → Wrote b c next w → Wrote a c all w
  wrote_then w p = record { part = part_then p.part; all = λ t. subst (Appends a c) e (Appends-trans a b c text next h (p.all t)) }

-- the front of a text is written, and this is the rest of it
pub record FrontWritten (a b : Option (List ℕ)) (text rest : List ℕ) : Type 0 where
  pub front : List ℕ
  pub cut : front ++ rest ≡ text
  pub grown : Appends a b front

-- a list is the front of it, and then the rest: n more of it
pub cut_more : (front rest : List ℕ) {all : List ℕ} → front ++ rest ≡ all → (n : ℕ) → (front ++ take n rest) ++ take (length rest - n) (drop n rest) ≡ all
cut_more front rest e n =
    append_assoc front (take n rest) (take (length rest - n) (drop n rest)) ∙ ap (λ t. front ++ (take n rest ++ t)) (take_rest rest n) ∙ ap (λ t. front ++ t) (take-append-drop n rest) ∙ e

-- a write took some of the rest
pub front_more : {a b c : Option (List ℕ)} {text rest : List ℕ} → FrontWritten a b text rest → (n : ℕ) → Appends b c (take n rest) → FrontWritten a c text (take (length rest - n) (drop n rest))
front_more {a} {b} {c} {text} {rest} f n h = record { front = f.front ++ take n rest; cut = cut_more f.front rest f.cut n; grown = Appends-trans a b c f.front (take n rest) f.grown h }
