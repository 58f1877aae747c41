use Rattle.book_parts.proofs.StoredVersions.{present_is, tomb_is, named_is, shadowed_is, shadowed_by, none_shadowed, spent_is}
use Rattle.book_parts.proofs.cleaning.stored_versions_stand.Goals as goal

pub returns-clause-present : goal.returns-clause-present
returns-clause-present c = λ p m r s k. present_is p m r s k

pub returns-clause-named : goal.returns-clause-named
returns-clause-named c = λ p m h r s k. named_is p m r h.sound s k

pub returns-clause-tomb : goal.returns-clause-tomb
returns-clause-tomb c = λ p m r s k v e. tomb_is p m r s k v e

pub returns-clause-shadowed : goal.returns-clause-shadowed
returns-clause-shadowed c = λ p m h r s k. shadowed_is p m r h.sound s k

pub returns-clause-newest : goal.returns-clause-newest
returns-clause-newest c = λ p m h r k root newest s. shadowed_by p m r h.sound k root newest s

pub returns-clause-none : goal.returns-clause-none
returns-clause-none c = λ p m h r k none s. none_shadowed p m r h.sound k none s

pub returns-clause-spent : goal.returns-clause-spent
returns-clause-spent c = λ p m h r s k. spent_is p m r h.sound s k
