use Rattle.std.proofs.Common.{◌≡◌, rules, ap, sym, subst, ◌∙◌, ◌++◌, ◌∷◌, [], string_bytes}
use Rattle.dir_io.specs.Files.{IsWith}
use Rattle.dir_io.specs.Kept.{seen}
use Rattle.std.specs.List.{position}
use Rattle.dir_io.proofs.Kept.{is_named, with_set, with_push}
use Rattle.dir_io.proofs.mem_dir.put_file.Goals as goal

pub returns-in-Some-clause-with : goal.returns-in-Some-clause-with
returns-in-Some-clause-with c =
    let same : c.in_ok-copy.copy.items ≡ c.args.bytes.now = search rules in
    let key : c.index_mut.result.now.0 ≡ _ = ap (λ p. p.0) c.index_mut.ensures.value in
    subst (IsWith _ _ c.args.name.now) same
    (with_set c.args.files.now.items c.args.name.now c.in-Some.place c.index_mut.result.now (c.index_mut.result.now.0, c.in_ok-copy.copy)
    (ap (position (is_named c.args.name.now)) (sym c.deref.ensures.value) ∙ sym c.place_of.ensures ∙ c.in-Some.is) key)

pub returns-in_ok-push-in-None-clause-with : goal.returns-in_ok-push-in-None-clause-with
returns-in_ok-push-in-None-clause-with c =
    let same : c.in_ok-copy.copy.items ≡ c.args.bytes.now = search rules in
    let key : string_bytes c.in_ok-from_str-in-None.field-0 ≡ c.args.name.now = search rules in
    let whole : c.push.new.self.items ≡ c.args.files.now.items ++ (c.in_ok-from_str-in-None.field-0, c.in_ok-copy.copy) ∷ [] = search rules in
    subst (λ items. IsWith (seen c.args.files.now.items) (seen items) c.args.name.now c.args.bytes.now) (sym whole)
    (subst (IsWith (seen c.args.files.now.items) (seen (c.args.files.now.items ++ (c.in_ok-from_str-in-None.field-0, c.in_ok-copy.copy) ∷ [])) c.args.name.now) same
    (with_push c.args.files.now.items c.args.name.now (c.in_ok-from_str-in-None.field-0, c.in_ok-copy.copy) key (ap (position (is_named c.args.name.now)) (sym c.deref.ensures.value) ∙ sym c.place_of.ensures ∙ c.in-None.is)))
