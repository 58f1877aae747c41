-- Of the tests: a list of numbers and the entries that it stands for, and a pass that is whole again after one split and one join.
use Rattle.std.proofs.Common.{◌≡◌, ℕ, List, [], ◌∷◌, ◌++◌, map, refl, sym, ap, ◌∙◌, subst, append_assoc, arith}
use Rattle.std.specs.List.{All}
use Rattle.turn_lock.specs.Numbers.{HaveAll}
use Rattle.turn_lock.specs.Rule.{in_range}
use Rattle.turn_lock.proofs.Sums.{below_yes, below_no, in_cut}
use Rattle.turn_lock.proofs.Ranges.{among_yes}
use Rattle.std.proofs.lemmas.List.Elements.{All-nil, All-cons}

pub own_entries : (n : ℕ) (xs : List ℕ) → All (λ (e : ℕ × ℕ). e.0 ≡ n) (map (λ x. (n, x)) xs)
own_entries n [] = All-nil (λ (e : ℕ × ℕ). e.0 ≡ n)
own_entries n (x ∷ xs) = All-cons (λ (e : ℕ × ℕ). e.0 ≡ n) (n, x) (map (λ x. (n, x)) xs) refl (own_entries n xs)

numbers_of : (n : ℕ) (seen : List (ℕ × ℕ)) (xs : List ℕ) → map (λ e. e.1) (seen ++ map (λ x. (n, x)) xs) ≡ map (λ e. e.1) seen ++ xs
numbers_of n [] [] = refl
numbers_of n [] (x ∷ xs) = ap (λ (z : List ℕ). x ∷ z) (numbers_of n [] xs)
numbers_of n (e ∷ seen) xs = ap (λ (z : List ℕ). e.1 ∷ z) (numbers_of n seen xs)

pub log_grows : (n : ℕ) (start old new xs : List ℕ) (seen : List (ℕ × ℕ)) → old ≡ start ++ map (λ e. e.1) seen → new ≡ old ++ xs → new ≡ start ++ map (λ e. e.1) (seen ++ map (λ x. (n, x)) xs)
log_grows n start old new xs seen was is = is ∙ (ap (λ (z : List ℕ). z ++ xs) was ∙ (append_assoc start (map (λ e. e.1) seen) xs ∙ ap (λ (z : List ℕ). start ++ z) (sym (numbers_of n seen xs))))

pub whole_again : (numbers : List (ℕ × ℕ)) (stock : ℕ × ℕ) → numbers ≡ (1, 1) ∷ (65537, 0) ∷ (2, 1) ∷ [] → stock ≡ (3, 65534) → HaveAll (stock ∷ numbers)
whole_again numbers stock is left = subst (λ (r : ℕ × ℕ). HaveAll (r ∷ numbers)) (sym left) (subst (λ (rs : List (ℕ × ℕ)). HaveAll ((3, 65534) ∷ rs)) (sym is) (λ x from upto.
    let all : in_range x (1, 65536) ≡ 1 = (let n = below_no x 1 from in let y = below_yes x 65537 (omega arith) in omega arith) in
    let a = in_cut x 1 1 65535 2 65536 (omega arith) (omega arith) in
    let b = in_cut x 2 1 65534 3 65535 (omega arith) (omega arith) in
    among_yes x ((3, 65534) ∷ (1, 1) ∷ (65537, 0) ∷ (2, 1) ∷ []) (omega arith)))
