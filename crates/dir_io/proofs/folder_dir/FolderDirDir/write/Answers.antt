use Rattle.std.proofs.Common.{ap, subst, IsTrue}
use Rattle.dir_io.proofs.Noted.{synced_before}
use Rattle.dir_io.proofs.folder_dir.FolderDirDir.write.Goals as goal

pub returns-clause-synced : goal.returns-clause-synced
returns-clause-synced g c = λ synced. subst IsTrue (ap (λ d. d.synced) c.self.view_is) (synced_before c.self.inside.written _ c.self.inside.is_lost c.write-result.ensures.kept synced)
