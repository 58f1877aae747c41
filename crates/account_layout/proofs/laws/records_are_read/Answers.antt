use Rattle.account_layout.proofs.Known.{record_len}
use Rattle.account_layout.proofs.Readings.{between_reads, between_places}
use Rattle.account_layout.proofs.laws.records_are_read.Goals as goal

pub returns-clause-read : goal.returns-clause-read
returns-clause-read c front part rest key fields end h le = between_reads front part rest key fields end h le

pub returns-clause-places : goal.returns-clause-places
returns-clause-places c front part rest key fields h = between_places front part rest key fields h

pub returns-clause-len : goal.returns-clause-len
returns-clause-len c part key fields h = record_len part key fields h
