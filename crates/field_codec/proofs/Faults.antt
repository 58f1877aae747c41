-- A fault of a part is one of the whole.
use Rattle.std.proofs.Common.{◌≡◌, Result, Err}
use Rattle.field_codec.specs.declared.fault.FieldFault.{FieldFault}
use Rattle.field_codec.specs.declared.fault.FieldFault.TheVariants.{Cut, SlotTwice, Storages, Trailing, NoMemory}
use Rattle.field_codec.specs.Reading.{Fails}

-- where each fault of the first reading is one of the second
pub fails_on : {Y Z : Type 0} (fault : FieldFault) (part : Result Y FieldFault) (whole : Result Z FieldFault) → ((f : FieldFault) → part ≡ Err f → whole ≡ Err f) → Fails fault part → Fails fault whole
fails_on NoMemory part whole h fails = tt
fails_on (Cut a) part whole h fails = h (Cut a) fails
fails_on (SlotTwice a) part whole h fails = h (SlotTwice a) fails
fails_on (Storages a b) part whole h fails = h (Storages a b) fails
fails_on (Trailing a) part whole h fails = h (Trailing a) fails
