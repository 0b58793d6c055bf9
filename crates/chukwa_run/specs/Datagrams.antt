-- A writer of datagrams as a command: its script, and what each of its ends shows.
use Rattle.std.specs.Prelude.{◌≡◌, ℕ, List, [], ◌∷◌, ◌++◌, codes, string_bytes, Some, Result, Ok, Err}
use Rattle.chk_site.specs.declared.acts.Act.{Act}
use Rattle.chk_site.specs.declared.acts.Call.{Call}
use Rattle.chk_site.specs.declared.acts.CallFault.TheVariants.{Failed}
use Rattle.chk_site.specs.declared.acts.ActAnswer.TheVariants.{Refused}
use Rattle.chk_site.specs.History.{History, Every, Others}
use Rattle.chk_site.specs.Runs.{own_acts}
use Rattle.chk_wahead.specs.declared.fault.WaheadFault.{WaheadFault}
use Rattle.chk_wahead.specs.declared.fault.WaheadFault.TheVariants as Waheads
use Rattle.chk_wahead.specs.States.{last_number}
use Rattle.chk_cmd_udp.specs.Runs.{HasRun}
use Rattle.chk_udp_laws.specs.Uses.{AreRuns}
use Rattle.chk_udp_laws.specs.Histories.{IsApart}
use Rattle.chk_udp_laws.specs.Wholes.{RunLeaves, FindsTidy}
use Rattle.chk_cmd_line.specs.Datagrams.{UdpAsked}
use Rattle.chk_cmd_line.specs.declared.endings.Ending.{Ending}
use Rattle.chk_cmd_line.specs.declared.endings.Ending.TheVariants.{Outside, NoMemory, Damaged, Spent}
use Rattle.chukwa_run.specs.declared.datagrams.DatagramSetting.{DatagramSetting}
use Rattle.chukwa_run.specs.Processes.{the_writer}
use Rattle.chk_cmd_load.specs.Processes.{chukwa}

-- the door at which datagrams for this address are taken
abbrev pub door_of : List ℕ → List ℕ
door_of address = codes "udp:" ++ address

-- with what the writer of these words is run
pub record IsSetFor (w : UdpAsked) (setting : DatagramSetting) : Type 0 where
  pub who : setting.who ≡ the_writer w.name
  pub writer : setting.writer ≡ chukwa
  pub door : string_bytes setting.door ≡ door_of w.address

-- the same fault of the writer
abbrev pub wahead_ending : WaheadFault → Ending
wahead_ending (Waheads.Outside call) = Outside call
wahead_ending (Waheads.Damaged name at) = Damaged name at
wahead_ending (Waheads.Spent number) = Spent number
wahead_ending Waheads.NoMemory = NoMemory

-- The script of the run: the start, so many turns, the close and the printed line, up to what ended
-- it. A turn takes one datagram at its door within 1,000 ms, and up to `messages` where more wait
-- there already.
abbrev pub UdpScript : UdpAsked → Result (Unit {0}) WaheadFault → History → History → Type 0
UdpScript w result earlier added =
    HasRun (the_writer w.name) chukwa (door_of w.address) w.turns w.rotate w.messages result
    (Some earlier) (Some (added ++ earlier))

-- The same, and what the files show behind it and at each first taking of a turn, where all that
-- the writer did before are runs of this command, and steps of others beside this one leave its
-- files alone.
pub record UdpRan (w : UdpAsked) (result : Result (Unit {0}) WaheadFault) (earlier added : History)
    : Type 0 where
  pub script : UdpScript w result earlier added
  pub leaves : AreRuns w.name earlier → Others (IsApart w.name) added earlier
      → RunLeaves w.name result added earlier
  pub finds : AreRuns w.name earlier → Others (IsApart w.name) added earlier
      → Every (FindsTidy w.name w.rotate) added earlier

-- All turns are over, no buffer is left under writing, and the line was printed. All that was taken
-- is in the closed buffers.
abbrev pub UdpWhole : UdpAsked → History → History → Type 0
UdpWhole w earlier added = UdpRan w (Ok tt) earlier added

-- the newest of these acts is this call, which failed
abbrev pub FailedAtLast : Call → List Act → Type 0
FailedAtLast call [] = ⊥
FailedAtLast call (act ∷ acts) = (act.call ≡ call) × (act.answer ≡ Refused Failed)

-- what an end shows: where the script was cut short by this fault
abbrev pub UdpCut : UdpAsked → History → Ending → History → Type 0
UdpCut w earlier (Outside call) added = FailedAtLast call (own_acts added)
    × UdpRan w (Err (Waheads.Outside call)) earlier added
UdpCut w earlier NoMemory added = Unit {0}
UdpCut w earlier (Damaged name at) added = UdpRan w (Err (Waheads.Damaged name at)) earlier added
UdpCut w earlier (Spent n) added = (n ≡ last_number)
    × UdpRan w (Err (Waheads.Spent n)) earlier added
UdpCut w earlier e added = ⊥

-- where no call failed: a start found a file of the writer's that isn't in its grammar, which never
-- is so where all that the writer did are runs of this command; or the number of the last buffer
-- is the last one
abbrev pub LeftOfUdp : UdpAsked → History → Ending → History → Type 0
LeftOfUdp w earlier (Damaged name at) added = UdpRan w (Err (Waheads.Damaged name at)) earlier
    added
LeftOfUdp w earlier (Spent n) added = (n ≡ last_number)
    × UdpRan w (Err (Waheads.Spent n)) earlier added
LeftOfUdp w earlier e added = ⊥
