-- Faults in words.
use Rattle.std.specs.Prelude.{ℕ, List, ◌++◌, codes, decimal, string_bytes}
use Rattle.vec_scan.specs.declared.fault.LayoutFault.{LayoutFault}
use Rattle.vec_scan.specs.declared.fault.LayoutFault.TheVariants as layouts
use Rattle.field_codec.specs.FormFaults.{form_fault_text}
use Rattle.snap_open.specs.declared.fault.OpenFault.{OpenFault}
use Rattle.snap_open.specs.declared.fault.OpenFault.TheVariants as faults

-- two numbers in words
abbrev pub pair_text : ℕ → ℕ → List ℕ
pair_text a b = decimal a ++ codes " " ++ decimal b

-- a fault of a file's image in words
abbrev pub layout_fault_text : LayoutFault → List ℕ
layout_fault_text (layouts.ShortFile have want) = codes "short-file " ++ pair_text have want
layout_fault_text (layouts.HeaderCut at) = codes "header-cut " ++ decimal at
layout_fault_text (layouts.DataCut at len) = codes "data-cut " ++ pair_text at len
layout_fault_text (layouts.DataTooLong len) = codes "data-too-long " ++ decimal len
layout_fault_text (layouts.BadExecutable at byte) = codes "bad-executable " ++ pair_text at byte
layout_fault_text (layouts.TailCut at len) = codes "tail-cut " ++ pair_text at len
layout_fault_text layouts.NoMemory = codes "no memory"

-- a fault in words
abbrev pub open_fault_text : OpenFault → List ℕ
open_fault_text (faults.Form fault) = form_fault_text fault
open_fault_text (faults.Full used wanted limit) = codes "full " ++ decimal used ++ codes " " ++ pair_text wanted limit
open_fault_text (faults.NoCell limit) = codes "no-cell " ++ decimal limit
open_fault_text faults.DirFault = codes "directory fault"
open_fault_text (faults.Gone name) = codes "gone " ++ string_bytes name
open_fault_text (faults.Layout name fault) = codes "layout " ++ string_bytes name ++ codes " " ++ layout_fault_text fault
open_fault_text faults.NoMemory = codes "no memory"
