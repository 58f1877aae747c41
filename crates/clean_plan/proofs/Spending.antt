-- The spent pair of a key leaves, after which it has none.
use Rattle.std.proofs.Common.{◌≡◌, ℕ, List, Bool, true, false, eqb, not, ◌&&◌, ◌↔◌, IsTrue, Some, None, refl, ◌∙◌, inl, inr}
use Rattle.std.specs.Str.{bytes_eq}
use Rattle.std.proofs.lemmas.Bool.{cases_Bool, eqb-false}
use Rattle.accounts_index.specs.Index.{Index, kept}
use Rattle.storage_map.specs.Slots.{Slots}
use Rattle.adb_model.specs.State.{State}
use Rattle.adb_model.specs.Presence.{is_named}
use Rattle.adb_model.specs.Reclaimable.{is_spent}
use Rattle.adb_model.specs.Reclaim.{is_taken, drop_spent}
use Rattle.adb_model.specs.Cleaning.{without_name}
use Rattle.adb_model.specs.Sound.{IsSoundMidway}
use Rattle.adb_model.specs.Once.{IsOnce}
use Rattle.book_parts.specs.Parts.{Parts}
use Rattle.book_parts.specs.Reflects.{Reflects}
use Rattle.book_parts.specs.Reclaims.{IsMidway, IsLowestTomb}
use Rattle.clean_plan.specs.Leaving.{StandAs, Leave}
use Rattle.clean_plan.specs.Lists.{TellsLowestTomb}
use Rattle.clean_plan.proofs.Dropping.{bytes_eq-self, and_false}
use Rattle.clean_plan.proofs.Tombs.{one_lowest}

-- where a pair is spent, in the words of the parts
abbrev pub SpentLaw : Type 0
SpentLaw = (p : Parts) (m : State) → IsMidway m → Reflects p m → (s : ℕ) (k : List ℕ)
    → IsTrue (is_spent m s k) ↔ IsLowestTomb p.cleaned (kept p.index k).versions (kept p.index k).held s

-- the laws of named and spent pairs, as contracts have them
pub record Laws : Type 0 where
  pub spent : SpentLaw
  pub sound : (m : State) → IsSoundMidway m → (slot : ℕ) (key : List ℕ) → IsTrue (is_spent m slot key) → IsSoundMidway (without_name m slot key)
  pub once : (m : State) (slot : ℕ) (key : List ℕ) → IsOnce m → IsOnce (without_name m slot key)
  pub others : (m : State) → IsSoundMidway m → (slot : ℕ) (key : List ℕ) → IsTrue (is_spent m slot key) → (s : ℕ) (k : List ℕ)
      → is_spent (without_name m slot key) s k ≡ (not (eqb slot s && bytes_eq key k) && is_spent m s k)
  pub rest : (m : State) → IsSoundMidway m → (slot : ℕ) (key : List ℕ) → IsTrue (is_spent m slot key)
      → (keys : List (List ℕ)) → IsTrue (is_taken keys key) → drop_spent keys (without_name m slot key) ≡ drop_spent keys m

front : (a b c d : Bool) → (((a && b) && c) && d) ≡ true → a ≡ true
front true b c d e = refl
front false b c d e = e

pub named_spent : (m : State) (slot : ℕ) (key : List ℕ) → IsTrue (is_spent m slot key) → IsTrue (is_named m slot key)
named_spent m slot key spent = front (is_named m slot key) _ _ _ spent

not_true : (b : Bool) → (b ≡ true → ⊥) → b ≡ false
not_true true never = absurd (never refl)
not_true false never = refl

module _ (law : SpentLaw) (p : Parts) (index : Index) (map : Slots) (m : State) (stands : StandAs p index map m) (key : List ℕ) where
  abbrev IsLowest : ℕ → Type 0
  IsLowest s = IsLowestTomb p.cleaned (kept index key).versions (kept index key).held s

  lowest_is : (s : ℕ) → IsTrue (is_spent m s key) ↔ IsLowest s
  lowest_is s = law (record p { index = index; map = map }) m stands.midway stands.parts s key

  pub none_spent : TellsLowestTomb p.cleaned (kept index key).versions (kept index key).held None → Leave is_spent drop_spent key m m
  none_spent none = record {
    rest = λ keys taken. refl;
    none = λ s. not_true (is_spent m s key) (λ spent. none s ((lowest_is s).0 spent));
    others = λ s k other. other;
  }

module _ (laws : Laws) (p : Parts) (index : Index) (map : Slots) (m : State) (stands : StandAs p index map m) (key : List ℕ) (slot : ℕ)
    (lowest : TellsLowestTomb p.cleaned (kept index key).versions (kept index key).held (Some slot)) where
  pub left_spent : (new_index : Index) (new_map : Slots) → (IsTrue (is_named m slot key) → Reflects (record p { index = new_index; map = new_map }) (without_name m slot key))
      → (n : State) × StandAs p new_index new_map n × Leave is_spent drop_spent key m n
  left_spent new_index new_map parts =
      let sound = stands.midway.sound in
      let spent : IsTrue (is_spent m slot key) = (lowest_is laws.spent p index map m stands key slot).1 lowest in (
        without_name m slot key,
        record {
          midway = record { sound = laws.sound m sound slot key spent; once = laws.once m slot key stands.midway.once };
          parts = parts (named_spent m slot key spent);
        },
        record {
          rest = λ keys taken. laws.rest m sound slot key spent keys taken;
          none = λ s. laws.others m sound slot key spent s key ∙ gone s;
          others = λ s k other. laws.others m sound slot key spent s k ∙ and_false (not (eqb slot s && bytes_eq key k)) (is_spent m s k) other;
        },
      )
    where
      gone : (s : ℕ) → (not (eqb slot s && bytes_eq key key) && is_spent m s key) ≡ false
      gone s = elim (cases_Bool (eqb slot s)) [
        | inl here ↦ rw (here, bytes_eq-self key) refl
        | inr other ↦ and_false (not (eqb slot s && bytes_eq key key)) (is_spent m s key) (not_true (is_spent m s key) (λ spent.
            let same = one_lowest p.cleaned (kept index key).versions (kept index key).held slot s lowest ((lowest_is laws.spent p index map m stands key s).0 spent) in
            eqb-false slot s other same))
      ]
