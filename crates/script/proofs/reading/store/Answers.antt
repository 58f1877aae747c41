use Rattle.std.proofs.Common.{rules, ◌≡◌, [], ◌∙◌, sym, refl}
use Rattle.std.proofs.lemmas.Bool.{eqb-true}
use Rattle.script.specs.Reader.{store_of, ended}
use Rattle.script.specs.Words.{words}
use Rattle.script.proofs.WordLemmas.{no_bytes}
use Rattle.script.proofs.reading.store.Goals as goal

-- no more words: what may be left out is
pub returns-then-is_empty : goal.returns-then-is_empty
unfolding store_of ended
returns-then-is_empty c =
    let none : words c.in_ok-lamports.rest.now ≡ [] = no_bytes c.in_ok-lamports.rest.now (eqb-true _ _ (sym c.is_empty.ensures ∙ c.if-is_empty.true)) in
    rw (c.in_ok-slot.ensures, c.in_ok-key.ensures, c.in_ok-lamports.ensures, none, c.in_ok-account.ensures, c.new.ensures.items) refl
