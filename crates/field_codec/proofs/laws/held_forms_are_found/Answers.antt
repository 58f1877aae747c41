use Rattle.field_codec.proofs.Held.{found_is, holds, one_form}
use Rattle.field_codec.proofs.laws.held_forms_are_found.Goals as goal

pub returns-clause-found : goal.returns-clause-found
returns-clause-found c files name content found h finds =
    found_is files name finds.names finds.listed.complete finds.listed.rising content h c.number_texts_are_numbers.ensures found finds.finds

pub returns-clause-held : goal.returns-clause-held
returns-clause-held c files name form finds = holds files name finds.names finds.listed.complete form finds.finds

pub returns-clause-one : goal.returns-clause-one
returns-clause-one c files name content other = one_form c.number_texts_are_numbers.ensures files name content other
