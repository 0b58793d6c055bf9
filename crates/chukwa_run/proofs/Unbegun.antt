-- A command that did nothing for want of memory.
use Rattle.std.proofs.Common.{inl, ℕ, List, [], Err, Option, refl}
use Rattle.chk_site.specs.History.{History}
use Rattle.chk_site.specs.Site.{Adds}
use Rattle.chk_site.specs.Runs.{Leads}
use Rattle.chk_site.proofs.Runs.{adds_none}
use Rattle.chk_site.proofs.Leads.{leads_none}
use Rattle.chk_cmd_line.specs.Commands.{Asked, Round, Agent, Collector, Drain, Archive, Demux, Salvage, Load, Udp, Subscribe, Join}
use Rattle.chk_cmd_line.specs.declared.endings.Ending.TheVariants.{NoMemory}
use Rattle.chk_site.specs.declared.acts.OutsideFault.TheVariants.{NoMemory as no_memory}
use Rattle.chk_cmd_subscribe.specs.Told.{PrintsOnce, all_lines}
use Rattle.chk_join.specs.declared.fault.JoinFault.TheVariants.{NoMemory as joins_no_memory}
use Rattle.chk_cmd_line.specs.Joining.{JoinAsked}
use Rattle.chukwa_run.specs.Joining.{JoinCut}
use Rattle.chukwa_run.specs.Processes.{the_watcher, RunSide}
use Rattle.chukwa_run.specs.Showing.{Shows, IsOf}
use Rattle.chukwa_run.specs.Runs.{Begins, EndsWith, CausedBy}

-- a watcher that made no call has printed nothing
none_printed : (earlier : History) → PrintsOnce the_watcher (Err no_memory) [] earlier
none_printed earlier = ([], 0, refl, ([], all_lines [] 0, refl, refl))

-- a join that made no call has left all as it was
not_joined : (w : JoinAsked) (earlier : History) → JoinCut w earlier NoMemory []
not_joined w earlier = record {
  fault = joins_no_memory;
  is = refl;
  of = tt;
  last = tt;
  each = tt;
  at_most = inl refl;
  shows = record {
    tail = [];
    body = [];
    is = refl;
    done = Err joins_no_memory;
    answer = inl refl;
    only_prints = tt;
    left_so = λ settled others.
        record { joined = tt; kept = (λ v is. refl, (λ v is. refl, inl refl)) };
  };
}

shows_nothing : (command : Asked) (earlier : History) → Shows command earlier NoMemory []
shows_nothing (Round w) earlier = (tt, tt)
shows_nothing (Agent w) earlier = (tt, tt)
shows_nothing (Collector w) earlier = (tt, tt)
shows_nothing (Drain w) earlier = (tt, tt)
shows_nothing Archive earlier = ((tt, tt, tt), tt)
shows_nothing (Demux kinds) earlier = ((tt, tt, inl refl, tt), tt)
shows_nothing (Salvage file) earlier = tt
shows_nothing (Load lines) earlier = (record { own = tt; unprinted = refl; fault = tt }, tt)
shows_nothing (Udp w) earlier = tt
shows_nothing (Subscribe w) earlier = none_printed earlier
shows_nothing (Join w) earlier = not_joined w earlier

is_nothing : (command : Asked) (earlier : History) → IsOf command earlier NoMemory []
is_nothing (Round w) earlier = tt
is_nothing (Agent w) earlier = tt
is_nothing (Collector w) earlier = tt
is_nothing (Drain w) earlier = tt
is_nothing Archive earlier = (tt, tt, tt)
is_nothing (Demux kinds) earlier = (tt, tt, inl refl, tt)
is_nothing (Salvage file) earlier = (tt, tt)
is_nothing (Load lines) earlier = record { own = tt; unprinted = refl; fault = tt }
is_nothing (Udp w) earlier = tt
is_nothing (Subscribe w) earlier = none_printed earlier
is_nothing (Join w) earlier = not_joined w earlier

pub unbegun : (stamped : List (List ℕ)) (command : Asked) (earlier : History) (now : Option History)
    → Adds now now (Leads (RunSide stamped command) (Begins stamped earlier) (EndsWith stamped command (Err NoMemory) earlier))
unbegun stamped command earlier now =
    leads_none now
    (λ h begins. record {
      legal = begins.legal;
      since = record {
        added = [];
        goes_on = begins.is;
        holds = record { running = λ r. shows_nothing command earlier; stopped = λ s. tt };
      };
    })

pub caused_nothing : (command : Asked) (now : Option History) → Adds now now (CausedBy command (Err NoMemory))
caused_nothing command now =
    adds_none now (CausedBy command (Err NoMemory)) (λ history. record { running = λ r. is_nothing command history; stopped = λ s. tt })
