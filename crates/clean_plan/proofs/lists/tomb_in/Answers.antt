use Rattle.std.proofs.Common.{sym, ◌∙◌, subst, List, None, Some}
use Rattle.slot_list.specs.declared.Version.{Version}
use Rattle.slot_list.specs.Versions.{VersionsRise}
use Rattle.clean_plan.specs.Lists.{TellsLowestTomb}
use Rattle.clean_plan.proofs.Tombs.{first_of, not_buried, held_below, is_lowest, among_first, all_over, none_held}
use Rattle.clean_plan.proofs.lists.tomb_in.Goals.{in-Some+else-slot-lowest, in_default}
use Rattle.clean_plan.proofs.lists.tomb_in.Goals as goal

pub returns-then-not-is_buried : goal.returns-then-not-is_buried
returns-then-not-is_buried c =
    let x = c.in_ok-lowest.lowest.now in
    let held = c.args.held.now in
    let split = first_of c.args.versions.now x (sym c.in_ok-lowest.ensures.value) in
    subst (λ (vs : List Version). TellsLowestTomb c.args.cleaned vs held None) (sym split.1)
    (not_buried x split.0 (subst VersionsRise split.1 c.requires.versions) c.args.cleaned held (sym c.is_buried.ensures ∙ c.if-not-is_buried.true))

pub returns-then-slot-lowest : goal.returns-then-slot-lowest
returns-then-slot-lowest c =
    let x = c.in_ok-lowest.lowest.now in
    let held = c.args.held.now in
    let split = first_of c.args.versions.now x (sym c.in_ok-lowest.ensures.value) in
    subst (λ (vs : List Version). TellsLowestTomb c.args.cleaned vs held None) (sym split.1)
    (held_below x split.0 (subst VersionsRise split.1 c.requires.versions) c.args.cleaned held c.in-Some.slot.now (among_first c.in-Some.slot.now held (sym c.in-Some.ensures.value)) c.if-slot-lowest.true)

pub returns : goal.returns
returns c =
    let x = c.in_ok-lowest.lowest.now in
    let held = c.args.held.now in
    let split = first_of c.args.versions.now x (sym c.in_ok-lowest.ensures.value) in
    subst (λ (vs : List Version). TellsLowestTomb c.args.cleaned vs held (Some x.slot)) (sym split.1)
    (is_lowest x split.0 (subst VersionsRise split.1 c.requires.versions) c.args.cleaned held (sym c.is_buried.ensures ∙ c.if-not-is_buried.false)
    (elim c.match-first.branch [
      | in-Some+else-slot-lowest w ↦ all_over x.slot w.in-Some.slot.now held c.requires.held (sym w.in-Some.ensures.value) w.if-slot-lowest.false
      | in_default w ↦ none_held x.slot held w.in_default.ensures.value
    ]))
