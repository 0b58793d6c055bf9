-- A watcher as a command: its script, what it prints, and what each of its ends shows.
use Rattle.std.specs.Prelude.{◌≡◌, ◌++◌, Some, Result, Ok, Err}
use Rattle.chk_site.specs.declared.acts.OutsideFault.{OutsideFault}
use Rattle.chk_site.specs.declared.acts.OutsideFault.TheVariants as Outsides
use Rattle.chk_site.specs.History.{History}
use Rattle.chk_site.specs.Runs.{own_acts}
use Rattle.chk_cmd_subscribe.specs.Runs.{HasSubscribed}
use Rattle.chk_cmd_subscribe.specs.Told.{PrintsOnce}
use Rattle.chk_cmd_line.specs.Subscribing.{SubscribeAsked}
use Rattle.chk_cmd_line.specs.declared.endings.Ending.{Ending}
use Rattle.chk_cmd_line.specs.declared.endings.Ending.TheVariants.{Outside, NoMemory}
use Rattle.chukwa_run.specs.declared.subscribing.WatchSetting.{WatchSetting}
use Rattle.chukwa_run.specs.Datagrams.{FailedAtLast}
use Rattle.chukwa_run.specs.Processes.{the_watcher}

-- with what the watcher of these words is run
pub record IsSetToWatch (w : SubscribeAsked) (setting : WatchSetting) : Type 0 where
  pub who : setting.who ≡ the_watcher
  pub door : setting.door ≡ w.address

-- the same fault of the watcher
abbrev pub watch_ending : OutsideFault → Ending
watch_ending (Outsides.Outside call) = Outside call
watch_ending Outsides.NoMemory = NoMemory

-- The script of the run: so many turns and the last line, up to what ended it. A turn takes one
-- message at the address within 1,000 ms, reads it on exactly while it is short and no piece was
-- empty, and prints each of its chunks that lies above all those before it of its collector.
abbrev pub WatchScript : SubscribeAsked → Result (Unit {0}) OutsideFault → History → History
    → Type 0
WatchScript w result earlier added =
    HasSubscribed the_watcher w.address w.turns result (Some earlier) (Some (added ++ earlier))

-- Up to this end just the lines of chunks were printed that rise strictly for each collector, so
-- each chunk once; behind all turns the last line tells how many they are.
pub record HasWatched (w : SubscribeAsked) (result : Result (Unit {0}) OutsideFault)
    (earlier added : History) : Type 0 where
  pub script : WatchScript w result earlier added
  pub once : PrintsOnce the_watcher result added earlier

-- all turns are over, and the last line was printed
abbrev pub SubscribeWhole : SubscribeAsked → History → History → Type 0
SubscribeWhole w earlier added = HasWatched w (Ok tt) earlier added

-- what an end shows: where the script was cut short by this fault
abbrev pub SubscribeCut : SubscribeAsked → History → Ending → History → Type 0
SubscribeCut w earlier (Outside call) added = FailedAtLast call (own_acts added)
    × HasWatched w (Err (Outsides.Outside call)) earlier added
SubscribeCut w earlier NoMemory added = PrintsOnce the_watcher (Err Outsides.NoMemory) added earlier
SubscribeCut w earlier e added = ⊥
