-- A call that was done makes a legal step where its parts hold.
use Rattle.std.proofs.Common.{ℕ, List, [], refl}
use Rattle.std.specs.Prelude.{IsTrue}
use Rattle.chk_site.specs.declared.acts.Who.{Who}
use Rattle.chk_site.specs.declared.acts.Call.{Call}
use Rattle.chk_site.specs.declared.acts.ActAnswer.TheVariants.{Done}
use Rattle.chk_site.specs.Files.{changed}
use Rattle.chk_site.specs.Logs.{logs_changed}
use Rattle.chk_site.specs.Effect.{StaysSmall}
use Rattle.chk_site.specs.Acts.{deed_by, change_of}
use Rattle.chk_site.specs.History.{History, files_after, logs_after}
use Rattle.chk_site.specs.Honest.{Agrees}
use Rattle.chk_world.specs.Rules.{Legal, is_named_so, StartsAfterStop, Framed, OnlyWritersGrowLogs, OnlyAgentsPost, RoleMay}
use Rattle.chk_world_examples.specs.Refusing.{TheRule, ObeysBut, next_by}
use Rattle.chk_world_examples.specs.LongRound.{on}

module _ (who : Who) (call : Call) (words : List (List ℕ)) (number max : ℕ) (given : List (List ℕ)) (n of : ℕ) (history : History) where
  pub went : Legal [] history
      → StaysSmall (deed_by call words number max) (changed (change_of (deed_by call words number max)) (files_after history))
      (logs_changed (change_of (deed_by call words number max)) (logs_after history))
      → Agrees history who (deed_by call words number max) (Done given n of)
      → IsTrue (is_named_so who.role who.name)
      → StartsAfterStop who history (deed_by call words number max)
      → Framed who (files_after history) (deed_by call words number max)
      → OnlyWritersGrowLogs who.role (deed_by call words number max)
      → OnlyAgentsPost who.role (deed_by call words number max)
      → RoleMay [] who.role history (next_by who call words number max (Done given n of) history)
      → Legal [] (on who call words number max (Done given n of) history)
  went legal small agrees named starts own logs requests rule = (
    legal,
    record {
      honest = record {
        modelled = record {
          effect = record { did = change_of (deed_by call words number max); may = refl; files_left = λ n. refl; logs_left = λ p. refl };
          small = small;
        };
        agrees = agrees;
      };
      named = named;
      starts = starts;
      own_files = own;
      logs = logs;
      requests = requests;
      rule = rule;
    },
  )

  -- all but its rule
  pub else_holds : StaysSmall (deed_by call words number max) (changed (change_of (deed_by call words number max)) (files_after history))
      (logs_changed (change_of (deed_by call words number max)) (logs_after history))
      → Agrees history who (deed_by call words number max) (Done given n of)
      → IsTrue (is_named_so who.role who.name)
      → StartsAfterStop who history (deed_by call words number max)
      → Framed who (files_after history) (deed_by call words number max)
      → OnlyWritersGrowLogs who.role (deed_by call words number max)
      → OnlyAgentsPost who.role (deed_by call words number max)
      → ObeysBut TheRule history (next_by who call words number max (Done given n of) history)
  else_holds small agrees named starts own logs requests = record {
    honest = record {
      modelled = record {
        effect = record { did = change_of (deed_by call words number max); may = refl; files_left = λ n. refl; logs_left = λ p. refl };
        small = small;
      };
      agrees = agrees;
    };
    named = named;
    starts = starts;
    own_files = own;
    logs = logs;
    requests = requests;
    rule = tt;
  }
