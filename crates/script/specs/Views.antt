-- The words of views.
use Rattle.std.specs.Prelude.{◌≡◌, ◌≤◌, ◌⊎◌, ℕ, ◌-◌, ◌^◌, List, [], ◌∷◌, ◌++◌, length, map, codes, Some}
use Rattle.std.specs.List.{join_with_byte}
use Rattle.adb_model.specs.View.{View, view_of}
use Rattle.text_fields.specs.Numbers.{number_of}

-- 1 to 8,192 numbers joined by commas
pub record AreNumbers (w : List ℕ) (slots : List ℕ) : Type 0 where
  pub words : List (List ℕ)
  pub joined : w ≡ join_with_byte 44 words
  pub numbers : map number_of words ≡ map Some slots
  pub some : 1 ≤ length slots
  pub most : length slots ≤ 8192

-- `-`, or such numbers
abbrev pub AreAncestors : List ℕ → List ℕ → Type 0
AreAncestors w slots = ((w ≡ codes "-") × (slots ≡ [])) ⊎ AreNumbers w slots

-- `all`, or a number
abbrev pub IsMaxRoot : List ℕ → ℕ → Type 0
IsMaxRoot w max_root = ((w ≡ codes "all") × (max_root ≡ 2 ^ 64 - 1)) ⊎ (number_of w ≡ Some max_root)

-- ancestors, `@` and the greatest root
pub record IsView (w : List ℕ) (view : View) : Type 0 where
  pub front : List ℕ
  pub back : List ℕ
  pub slots : List ℕ
  pub max_root : ℕ
  pub joined : w ≡ front ++ 64 ∷ back
  pub ancestors : AreAncestors front slots
  pub root : IsMaxRoot back max_root
  pub view_is : view_of slots max_root ≡ view
