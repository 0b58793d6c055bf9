-- Which ending a fault of the job is.
use Rattle.chk_record_index.specs.declared.fault.JobFault.{JobFault}
use Rattle.chk_record_index.specs.declared.fault.JobFault.TheVariants as Jobs
use Rattle.chk_cmd_line.specs.declared.endings.Ending.{Ending}
use Rattle.chk_cmd_line.specs.declared.endings.Ending.TheVariants.{Outside, NoMemory, Damaged, Spent}

-- the same fault
abbrev pub job_ending : JobFault → Ending
job_ending (Jobs.Outside call) = Outside call
job_ending (Jobs.Damaged name at) = Damaged name at
job_ending (Jobs.Spent number) = Spent number
job_ending Jobs.NoMemory = NoMemory
