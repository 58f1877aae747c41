-- Words on lists that std does not have.
use Rattle.std.specs.Prelude.{ℕ, ◌==◌, max, min, Bool, not, if◌then◌else◌, List, [], ◌∷◌, Option, Some, None, unwrap_or, filter, fold}
use Rattle.std.specs.List.{list_any, reduce}
use Rattle.std.specs.Ordering.{is_lt, is_eq}
use Rattle.std.specs.declared.cmp.Ordering.{Ordering}

-- whether the number is in the list
abbrev pub among : ℕ → List ℕ → Bool
among n numbers = list_any (λ x. x == n) numbers

-- the greatest of the numbers
abbrev pub greatest : List ℕ → Option ℕ
greatest numbers = reduce max numbers

-- the least of the numbers
abbrev pub least : List ℕ → Option ℕ
least numbers = reduce min numbers

-- the last element
abbrev pub last : {A : Type 0} → List A → Option A
last [] = None
last (x ∷ xs) = Some (unwrap_or (last xs) x)

-- the list without the last element that passes
abbrev pub without_last : {A : Type 0} → (A → Bool) → List A → List A
without_last test [] = []
without_last test (x ∷ xs) =
    if list_any test xs then x ∷ without_last test xs
    else if test x then xs
    else x ∷ xs

-- each element once, where it stands first
abbrev pub distinct : {A : Type 0} → (A → A → Bool) → List A → List A
distinct same [] = []
distinct same (x ∷ xs) = x ∷ filter (λ y. not (same x y)) (distinct same xs)

-- the rising list with one more element, unless it has it
abbrev pub placed : {A : Type 0} → (A → A → Ordering) → A → List A → List A
placed cmp x [] = x ∷ []
placed cmp x (y ∷ ys) =
    if is_lt (cmp x y) then x ∷ y ∷ ys
    else if is_eq (cmp x y) then y ∷ ys
    else y ∷ placed cmp x ys

-- the elements, rising and each once
abbrev pub rising : {A : Type 0} → (A → A → Ordering) → List A → List A
rising cmp xs = fold (λ ys x. placed cmp x ys) [] xs
