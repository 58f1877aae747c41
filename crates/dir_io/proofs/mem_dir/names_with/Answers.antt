use Rattle.std.proofs.Common.{◌≡◌, ◌<◌, length, take, true, false, rules, arith, ap, ◌∙◌, string_bytes, cond}
use Rattle.std.specs.List.{list_any}
use Rattle.std.proofs.lemmas.Grind.{common_steps}
use Rattle.std.specs.BTreeSet.{contains_text}
use Rattle.std.specs.Str.{bytes_eq}
use Rattle.std.proofs.lemmas.Map.Text.{btree_set_updates_text}
use Rattle.std.proofs.lemmas.Result.{IfOk-weaker}
use Rattle.dir_io.specs.Files.{has_prefix}
use Rattle.dir_io.proofs.Listed.{is_wanted, taken, passed, listing}
use Rattle.dir_io.proofs.mem_dir.names_with.Goals.{then-starts_with+in_ok-clone+in_ok-insert, else-starts_with}
use Rattle.dir_io.proofs.mem_dir.names_with.Goals as goal

pub loop-file-preserved : goal.loop-file-preserved
loop-file-preserved c = elim c.if-starts_with.branch [
  | then-starts_with+in_ok-clone+in_ok-insert w ↦ λ q.
      let key : string_bytes w.in_ok-clone.field-0 ≡ string_bytes c.file-item.result.0 = search rules in
      let has : has_prefix c.args.prefix.now (string_bytes c.file-item.result.0) ≡ true = search rules in
      let within : c.loop-file.file-index < length c.deref-file-items.result.now = search rules in
      ap (λ s. contains_text s q) w.names-is
      ∙ btree_set_updates_text (string_bytes w.in_ok-clone.field-0) _ _ true w.in_ok-insert.ensures.updates q
      ∙ ap (λ k. cond (bytes_eq k q) true (contains_text c.loop-file.names q)) key
      ∙ taken c.deref-file-items.result.now c.args.prefix.now q c.loop-file.file-index c.file-item.result _ within c.file-item.is (c.loop-file.invariant q) has
  | else-starts_with w ↦ λ q.
      let lacks : has_prefix c.args.prefix.now (string_bytes c.file-item.result.0) ≡ false = search rules in
      let within : c.loop-file.file-index < length c.deref-file-items.result.now = search rules in
      ap (λ s. contains_text s q) w.names-is
      ∙ passed c.deref-file-items.result.now c.args.prefix.now q c.loop-file.file-index c.file-item.result _ within c.file-item.is (c.loop-file.invariant q) lacks
]

pub returns : goal.returns
returns c =
    let all : take c.loop-file.file-index c.deref-file-items.result.now ≡ c.args.files.now.items = grind (arith, common_steps) in
    IfOk-weaker c.in_order.result (λ names. names.items ≡ c.loop-file.names.keys) _
    (λ names same. listing c.args.files.now.items c.args.prefix.now c.loop-file.names.keys names.items same c.in_order.ensures.rising
    (λ q. c.loop-file.invariant q ∙ ap (list_any (is_wanted c.args.prefix.now q)) all))
    c.in_order.ensures.all
