use Rattle.script.proofs.DataLemmas.{byte_refused}
use Rattle.script.proofs.data_words.read_byte.Goals as goal

pub returns-in-Err : goal.returns-in-Err
returns-in-Err c = byte_refused c.args.word.now c.decode_to_slice.new.out c.decode_to_slice.result c.in-Err.field-0 c.decode_to_slice.ensures.value c.in-Err.is
