use Rattle.std.proofs.Common.{◌≡◌, ◌+◌, ℕ, List, ◌++◌, not, length, sym, ap, ◌∙◌, arith}
use Rattle.std.specs.List.{position_or_len}
use Rattle.std.proofs.lemmas.List.{take-append-drop}
use Rattle.std.proofs.lemmas.List.Sums.{prefix_len-le-length}
use Rattle.script.specs.Words.{is_blank}
use Rattle.script.proofs.SearchLemmas.{near_or_far}
use Rattle.script.proofs.words.word_len.Goals as goal

pub overflow_add-result : goal.overflow_add-result
overflow_add-result c =
    let near = prefix_len-le-length (λ b. not (is_blank b)) c.split_at.result.0.now in
    let far = prefix_len-le-length (λ b. not (is_blank b)) c.split_at.result.1.now in
    omega (arith, near, far, c.near_len-len.ensures, c.far_len.ensures, c.split_at.ensures.front_len, c.split_at.ensures.back_len, c.type_inv.line)

pub returns-then-len-near : goal.returns-then-len-near
returns-then-len-near c =
    let near = c.split_at.result.0.now in
    let far = c.split_at.result.1.now in
    let all : c.near_len-len.result ≡ length near = c.if-len-near.true in
    let none : position_or_len (λ b. is_blank b) near ≡ length near = sym c.near_len-len.ensures ∙ all in
    let line : near ++ far ≡ c.args.line.now = rw (c.split_at.ensures.front, c.split_at.ensures.back) (take-append-drop _ c.args.line.now) in
    ap (λ (n : ℕ). n + c.far_len.result) all
    ∙ ap (λ (n : ℕ). length near + n) c.far_len.ensures
    ∙ sym (near_or_far (λ b. is_blank b) near far none)
    ∙ ap (position_or_len (λ b. is_blank b)) line
