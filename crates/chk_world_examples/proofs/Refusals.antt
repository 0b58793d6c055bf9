-- The steps that the rules refuse, each with all else that it owes, beside those that they allow.
use Rattle.chk_site.specs.declared.acts.Call.TheVariants.{Create, Append, Remove, LogAppend}
use Rattle.chk_world_examples.specs.Texts.{c1, sink, a1, log, path, check_tmp, check, hello, text}
use Rattle.chk_world_examples.specs.Moments.{g6, g8, g10, g12, g24, g27, g30, some_step}
use Rattle.chk_world_examples.proofs.Went.{else_holds}
use Rattle.std.proofs.Common.{[], ◌∷◌, refl, arith}
use Rattle.std.specs.Prelude.{codes}
use Rattle.chk_site.specs.declared.acts.CallFault.TheVariants.{Short}
use Rattle.chk_site.specs.declared.acts.ActAnswer.TheVariants.{Done, Refused}
use Rattle.chk_site.specs.Files.{Nothing, Grown, Moved, LogGrown}
use Rattle.chk_site.specs.History.{Step, History}
use Rattle.chk_world.specs.Rules.{Obeys, RoleMay}
use Rattle.chk_world_examples.specs.Refusing.{TheRule, ObeysBut, by}
use Rattle.chk_world_examples.specs.Collectors.{CollectorStepsAreRefused}
use Rattle.chk_world_examples.specs.Agents.{AgentStepsAreRefused, no_line, next_check, publishes as publishes_check, reads_base, reads_past, rotated, day_7, day_8, day_9}
use Rattle.chk_world_examples.specs.Jobs.{JobStepsAreRefused, says}
use Rattle.chk_world_examples.specs.Processes.{StepsOfAnyAreRefused}
use Rattle.chk_world_examples.proofs.ExampleStart.{legal6, legal7, glegal6, glegal8, glegal10, glegal11, glegal12, glegal13}
use Rattle.chk_world_examples.proofs.ExampleMoves.{glegal19, glegal22}
use Rattle.chk_world_examples.proofs.ExampleJob.{glegal33, glegal38, glegal39}
use Rattle.chk_world_examples.proofs.ExampleStop.{plegal24, plegal29, plegal30, plegal31}
use Rattle.chk_world_examples.proofs.Unfolded.{texts}
use Rattle.chk_world_examples.proofs.WrongAlone
use Rattle.chk_world_examples.proofs.WrongCollector
use Rattle.chk_world_examples.proofs.WrongSinks
use Rattle.chk_world_examples.proofs.WrongAgent
use Rattle.chk_world_examples.proofs.WrongReads
use Rattle.chk_world_examples.proofs.WrongJob

-- where all else holds, the rule decides
pub obeys : (history : History) (step : Step) → ObeysBut TheRule history step → RoleMay [] step.act.who.role history step → Obeys [] history step
obeys history step o r =
    record { honest = o.honest; named = o.named; starts = o.starts; own_files = o.own_files; logs = o.logs; requests = o.requests; rule = r }

-- ---- a collector

next_name : ObeysBut TheRule g10 (by c1 Create (codes "sinks/c1.1.2.chukwa" ∷ []) g10)
unfolding texts
next_name = else_holds c1 Create (codes "sinks/c1.1.2.chukwa" ∷ []) 0 0 [] 0 0 g10 tt refl refl
    refl refl tt tt

removed_unmarked : ObeysBut TheRule g12 (by c1 Remove (sink ∷ []) g12)
unfolding texts
removed_unmarked = else_holds c1 Remove (sink ∷ []) 0 0 [] 0 0 g12 tt refl refl refl refl tt tt

pub collectors : CollectorStepsAreRefused
unfolding texts
collectors = record {
  number_once = record { others = WrongAlone.born_twice; refused = λ o. WrongCollector.born_twice o.rule; allowed = legal6.1 };
  next_number = record { others = WrongSinks.number_skipped_alone; refused = λ o. WrongSinks.number_skipped o.rule; allowed = legal6.1 };
  fresh_name = record {
    others = WrongAlone.skipped_name;
    refused = λ o. WrongCollector.skipped_name o.rule;
    allowed = obeys g10 (by c1 Create (codes "sinks/c1.1.2.chukwa" ∷ []) g10) next_name WrongCollector.next_name;
  };
  this_start = record { others = WrongSinks.another_start_alone; refused = λ o. WrongSinks.another_start o.rule; allowed = legal7.1 };
  last_sink = record { others = WrongSinks.older_sink_alone; refused = λ o. WrongSinks.older_sink o.rule; allowed = glegal12.1 };
  header_first = record { others = WrongSinks.no_header_alone; refused = λ o. WrongSinks.no_header o.rule; allowed = glegal11.1 };
  after_failure = record { others = WrongAlone.after_failure; refused = λ o. WrongCollector.after_failure o.rule; allowed = glegal12.1 };
  was_posted = record { others = WrongAlone.not_posted; refused = λ o. WrongCollector.not_posted o.rule; allowed = glegal12.1 };
  synced_mark = record { others = WrongAlone.mark_before_sync; refused = λ o. WrongCollector.mark_before_sync o.rule; allowed = glegal19.1 };
  whole_mark = record { others = WrongSinks.short_mark_alone; refused = λ o. WrongSinks.short_mark o.rule; allowed = glegal19.1 };
  with_mark = record { others = WrongAlone.done_unmarked; refused = λ o. WrongCollector.done_unmarked o.rule; allowed = plegal30.1 };
  at_mark = record { others = WrongAlone.done_past_its_mark; refused = λ o. WrongCollector.done_past_its_mark o.rule; allowed = plegal30.1 };
  cut_to_mark = record { others = WrongAlone.cut_below; refused = λ o. WrongCollector.cut_below o.rule; allowed = plegal29.1 };
  sink_removed = record {
    others = WrongAlone.removed_marked;
    refused = λ o. WrongCollector.removed_marked o.rule;
    allowed = obeys g12 (by c1 Remove (sink ∷ []) g12) removed_unmarked WrongCollector.removed_unmarked;
  };
  mark_removed = record { others = WrongAlone.mark_removed_early; refused = λ o. WrongCollector.mark_removed_early o.rule; allowed = plegal31.1 };
  with_appends = record { others = WrongAlone.answered_early; refused = λ o. WrongCollector.answered_early o.rule; allowed = glegal13.1 };
  answered_once = record { others = WrongSinks.answered_twice_alone; refused = λ o. WrongSinks.answered_twice o.rule; allowed = glegal13.1 };
  no_sync_between = record { others = WrongAlone.synced_before; refused = λ o. WrongCollector.synced_before o.rule; allowed = glegal13.1 };
  but_for_the_sync = WrongCollector.well_told;
  with_lengths = record { others = WrongAlone.not_committed; refused = λ o. WrongCollector.not_committed o.rule; allowed = glegal22.1 };
}

-- ---- an agent

keeps_text : ObeysBut TheRule (next_check text g6) (publishes_check (next_check text g6))
unfolding texts
keeps_text = record {
  honest = record {
    modelled = record { effect = record { did = Moved check_tmp check; may = refl; files_left = λ n. refl; logs_left = λ p. refl }; small = tt };
    agrees = refl;
  };
  named = refl;
  starts = refl;
  own_files = (refl, (refl, refl));
  logs = tt;
  requests = tt;
  rule = tt;
}

keeps : Obeys [] (next_check text g6) (publishes_check (next_check text g6))
unfolding texts
keeps = obeys (next_check text g6) (publishes_check (next_check text g6)) keeps_text WrongAgent.keeps_its_stream

at_6 : ObeysBut TheRule g27 (reads_base path 6 (Done ([] ∷ []) 0 0) g27)
unfolding texts
at_6 = record {
  honest = record {
    modelled = record { effect = record { did = Nothing; may = refl; files_left = λ n. refl; logs_left = λ p. refl }; small = tt };
    agrees = (omega arith, refl);
  };
  named = refl;
  starts = refl;
  own_files = tt;
  logs = tt;
  requests = tt;
  rule = tt;
}

on_at_6 : Obeys [] g27 (reads_base path 6 (Done ([] ∷ []) 0 0) g27)
unfolding texts
on_at_6 = obeys g27 (reads_base path 6 (Done ([] ∷ []) 0 0) g27) at_6 (WrongAgent.read_on (reads_base path 6 (Done ([] ∷ []) 0 0) g27))

place_1 : ObeysBut TheRule rotated (reads_past day_8 1 (Done (codes "bcdefgh" ∷ day_9 ∷ []) 0 0) rotated)
unfolding texts
place_1 = record {
  honest = record {
    modelled = record { effect = record { did = Nothing; may = refl; files_left = λ n. refl; logs_left = λ p. refl }; small = tt };
    agrees = (omega arith, refl);
  };
  named = refl;
  starts = refl;
  own_files = tt;
  logs = tt;
  requests = tt;
  rule = tt;
}

place_2 : ObeysBut TheRule rotated (reads_past day_8 2 (Done (codes "cdefgh" ∷ day_9 ∷ []) 0 0) rotated)
unfolding texts
place_2 = record {
  honest = record {
    modelled = record { effect = record { did = Nothing; may = refl; files_left = λ n. refl; logs_left = λ p. refl }; small = tt };
    agrees = (omega arith, refl);
  };
  named = refl;
  starts = refl;
  own_files = tt;
  logs = tt;
  requests = tt;
  rule = tt;
}

past_7 : ObeysBut TheRule rotated (reads_past day_7 12 (Refused (Short 10)) rotated)
unfolding texts
past_7 = record {
  honest = record {
    modelled = record { effect = record { did = Nothing; may = refl; files_left = λ n. refl; logs_left = λ p. refl }; small = tt };
    agrees = (omega arith, refl);
  };
  named = refl;
  starts = refl;
  own_files = tt;
  logs = tt;
  requests = tt;
  rule = tt;
}

past_9 : ObeysBut TheRule rotated (reads_past day_9 0 (Done ([] ∷ []) 0 0) rotated)
unfolding texts
past_9 = record {
  honest = record {
    modelled = record { effect = record { did = Nothing; may = refl; files_left = λ n. refl; logs_left = λ p. refl }; small = tt };
    agrees = (omega arith, refl);
  };
  named = refl;
  starts = refl;
  own_files = tt;
  logs = tt;
  requests = tt;
  rule = tt;
}

pub agents : AgentStepsAreRefused
unfolding texts
agents = record {
  keeps_streams = record { others = WrongAlone.loses_a_stream; refused = λ o. WrongAgent.loses_a_stream (publishes_check (next_check no_line g6)) o.rule; allowed = keeps };
  is_read = record { others = WrongAlone.unread; refused = λ o. WrongAgent.unread (publishes_check (next_check hello g6)) o.rule; allowed = keeps };
  read_on = record { others = WrongAlone.read_again; refused = λ o. WrongAgent.read_again some_step o.rule; allowed = on_at_6 };
  own_log = record { others = WrongAlone.reads_another; refused = λ o. WrongAgent.reads_another some_step o.rule; allowed = on_at_6 };
  at_place = record {
    others = place_1;
    refused = λ o. WrongReads.before_place some_step o.rule;
    allowed = obeys rotated (reads_past day_8 2 (Done (codes "cdefgh" ∷ day_9 ∷ []) 0 0) rotated) place_2 (WrongReads.at_place some_step);
  };
  past_later = record {
    others = past_7;
    refused = λ o. WrongReads.past_earlier some_step o.rule;
    allowed = obeys rotated (reads_past day_9 0 (Done ([] ∷ []) 0 0) rotated) past_9 (WrongReads.past_later some_step);
  };
  is_request = record { others = WrongAlone.sends_no_request; refused = λ o. WrongAgent.sends_no_request some_step o.rule; allowed = glegal8.1 };
}

-- ---- the job

says_done : ObeysBut TheRule g30 (says (codes "done\n") g30)
unfolding texts
says_done = record {
  honest = record {
    modelled = record { effect = record { did = Nothing; may = refl; files_left = λ n. refl; logs_left = λ p. refl }; small = tt };
    agrees = tt;
  };
  named = refl;
  starts = refl;
  own_files = tt;
  logs = tt;
  requests = tt;
  rule = tt;
}

may_say : Obeys [] g30 (says (codes "done\n") g30)
unfolding texts
may_say = obeys g30 (says (codes "done\n") g30) says_done WrongJob.no_report

pub jobs : JobStepsAreRefused
unfolding texts
jobs = record {
  synced_segment = record { others = WrongAlone.segment_not_synced; refused = λ o. WrongJob.segment_not_synced o.rule; allowed = glegal38.1 };
  true_end = record { others = WrongAlone.past_its_end; refused = λ o. WrongJob.past_its_end o.rule; allowed = glegal38.1 };
  archive_stays = record { others = WrongAlone.archive_lost; refused = λ o. WrongJob.archive_lost o.rule; allowed = glegal38.1 };
  named_segment = record { others = WrongAlone.named_segment_changed; refused = λ o. WrongJob.named_segment_changed o.rule; allowed = glegal33.1 };
  archived_sink = record { others = WrongAlone.not_archived; refused = λ o. WrongJob.not_archived o.rule; allowed = glegal39.1 };
  report_of_run = record { others = WrongAlone.no_run; refused = λ o. WrongJob.no_run o.rule; allowed = may_say };
  whole_line = record { others = WrongAlone.no_newline; refused = λ o. WrongJob.no_newline o.rule; allowed = may_say };
}

-- ---- any process

next_unchanged : Obeys [] g24 (by a1 Append (check_tmp ∷ hello ∷ []) g24)
unfolding texts
next_unchanged = record {
  honest = record {
    modelled = record { effect = record { did = Grown check_tmp hello; may = refl; files_left = λ n. refl; logs_left = λ p. refl }; small = omega arith };
    agrees = refl;
  };
  named = refl;
  starts = refl;
  own_files = refl;
  logs = tt;
  requests = tt;
  rule = tt;
}

log_written : Obeys [] g8 (by log LogAppend (path ∷ hello ∷ []) g8)
unfolding texts
log_written = record {
  honest = record {
    modelled = record { effect = record { did = LogGrown path hello; may = refl; files_left = λ n. refl; logs_left = λ p. refl }; small = omega arith };
    agrees = tt;
  };
  named = refl;
  starts = refl;
  own_files = tt;
  logs = refl;
  requests = tt;
  rule = tt;
}

pub any : StepsOfAnyAreRefused
unfolding texts
any = record {
  own_file = record { others = WrongAlone.others_file; refused = λ o. WrongJob.others_file o.own_files; allowed = glegal10.1 };
  synced = record { others = WrongAlone.published_unsynced; refused = λ o. WrongJob.published_unsynced o.own_files; allowed = glegal6.1 };
  unchanged = record { others = WrongAlone.published_changed; refused = λ o. WrongJob.published_changed o.own_files; allowed = next_unchanged };
  by_the_job = record { others = WrongAlone.removed_by_agent; refused = λ o. WrongJob.removed_by_agent o.own_files; allowed = glegal39.1 };
  start_first = record { others = WrongAlone.goes_on; refused = λ o. WrongJob.goes_on o.starts; allowed = plegal24.1 };
  by_a_writer = record { others = WrongAlone.log_changed; refused = λ o. WrongJob.log_changed o.logs; allowed = log_written };
  by_an_agent = record { others = WrongAlone.requested; refused = λ o. WrongJob.requested o.requests; allowed = glegal8.1 };
}
