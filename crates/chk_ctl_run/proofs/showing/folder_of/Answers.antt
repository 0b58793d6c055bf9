use Rattle.chk_ctl_verify.proofs.FolderWords.{records_folder, archive_folder}
use Rattle.chk_ctl_run.proofs.showing.folder_of.Goals as goal

pub returns-then-words-clause-folder : goal.returns-then-words-clause-folder
returns-then-words-clause-folder c = records_folder

pub returns-else-words-clause-folder : goal.returns-else-words-clause-folder
returns-else-words-clause-folder c = archive_folder
