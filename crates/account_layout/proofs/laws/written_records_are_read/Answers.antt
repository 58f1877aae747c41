use Rattle.account_layout.proofs.Readings.{written_is_record, read_again, one_form, written_len}
use Rattle.account_layout.proofs.laws.written_records_are_read.Goals as goal

pub returns-clause-record : goal.returns-clause-record
returns-clause-record c key account w = written_is_record key account w

pub returns-clause-again : goal.returns-clause-again
returns-clause-again c front rest key account end w le = read_again front rest key account end w le

pub returns-clause-one_form : goal.returns-clause-one_form
returns-clause-one_form c key key2 rest more account account2 w w2 same = one_form key key2 rest more account account2 w w2 same

pub returns-clause-len : goal.returns-clause-len
returns-clause-len c key account w = written_len key account w
