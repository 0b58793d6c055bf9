-- Steps of writers that their rule refuses for one of its parts, each beside one that differs in the one fact and is allowed.
use Rattle.std.proofs.Common.{◌≡◌, ℕ, Bool, true, false, ◌&&◌, List, [], ◌∷◌, Some, None, bytes_eq, refl, ap, sym, subst, true≢false, arith, if◌then◌else◌}
use Rattle.std.specs.Prelude.{codes, Contains, IsTrue, IsFalse, unwrap_or}
use Rattle.std.specs.List.{list_all, list_any}
use Rattle.std.specs.Fmt.{digits}
use Rattle.std.specs.Str.{is_utf8, chars}
use lib.Utf8.{encode}
use Rattle.chk_bytes.specs.Words.{is_word, text_lt}
use Rattle.chk_control.specs.Classes.{is_plain}
use Rattle.chk_site.specs.declared.acts.ActAnswer.TheVariants.{Rotated, Deleted}
use Rattle.chk_site.specs.Files.{LogTurned, LogDropped}
use Rattle.chk_site.specs.Suffixes.{is_suffix, is_after}
use Rattle.chk_site.specs.Logs.{Logs}
use Rattle.chk_site.specs.History.{files_after}
use Rattle.chk_world.specs.Names.{CheckFile, read, spell}
use Rattle.chk_world.specs.Checkpoints.{Line, One, checkpoint_text, read_checkpoint, lines_in}
use Rattle.chk_world.specs.Rules.{IsRotatable, IsPassed}
use Rattle.chk_world_examples.specs.Texts.{path, check, line}
use Rattle.chk_world_examples.proofs.ExampleMessages.{in_one, in_none}
use Rattle.chk_world_examples.specs.Refusing.{TheRule, ObeysBut}
use Rattle.chk_world_examples.specs.Writers.{moment, turns, may_turn, day_8, day_9, day_10, moving, past_9, whole_log, one_rotated}

-- the moment's one line is that of each line in a checkpoint of any source
lines_at : (b : Bool) (l m : Line) → read_checkpoint (checkpoint_text One (l ∷ [])) ≡ Some (l ∷ [])
    → Contains (lines_in (if b then Some (record { bytes = checkpoint_text One (l ∷ []); synced = 0 }) else None)) m → l ≡ m
lines_at true l m e c = in_one l m (subst (λ ls. Contains ls m) (ap (λ o. unwrap_or o []) e) c)
lines_at false l m e c = absurd (in_none m c)

module _ (l : Line) (logs : Logs) (e : read_checkpoint (checkpoint_text One (l ∷ [])) ≡ Some (l ∷ [])) where
  rotatable : IsFalse (is_plain l.class) → IsRotatable (files_after (moment l logs)) path
  rotatable h source m c at = subst (λ (m : Line). IsFalse (is_plain m.class)) (lines_at (bytes_eq (spell (CheckFile source)) check) l m e c) h

  passed : (suffix : List ℕ) → IsFalse (is_after l.after suffix) → IsPassed (files_after (moment l logs)) path suffix
  passed suffix h source m c at =
      subst (λ (m : Line). IsFalse (is_after m.after suffix)) (lines_at (bytes_eq (spell (CheckFile source)) check) l m e c) h

-- a log isn't rotated while a checkpoint reads its base file alone

pub base_read : may_turn (Rotated day_8) (moment line whole_log) → ⊥
unfolding read spell digits is_utf8 chars encode is_word read_checkpoint
base_read = λ r. true≢false (r.1 (codes "h1") line (0, omega arith, refl) refl)

pub new_suffix : IsTrue (is_suffix day_8 && list_all (λ g. text_lt g.suffix day_8) (whole_log path).rotated)
unfolding read spell digits is_utf8 chars encode is_word read_checkpoint
new_suffix = refl

pub base_read_alone : ObeysBut TheRule (moment line whole_log) (turns (Rotated day_8) (LogTurned path day_8) (moment line whole_log))
unfolding read spell digits is_utf8 chars encode is_word read_checkpoint
base_read_alone = record {
  honest = record {
    modelled = record { effect = record { did = LogTurned path day_8; may = (refl, refl); files_left = λ n. refl; logs_left = λ p. refl }; small = omega arith };
    agrees = tt;
  };
  named = refl;
  starts = refl;
  own_files = tt;
  logs = refl;
  requests = tt;
  rule = tt;
}

pub read_over_rotations : may_turn (Rotated day_8) (moment moving whole_log)
unfolding read spell digits is_utf8 chars encode is_word read_checkpoint
read_over_rotations = (refl, rotatable moving whole_log refl refl)

-- the new suffix is the greatest

pub older_suffix : may_turn (Rotated day_8) (moment moving one_rotated) → ⊥
unfolding read spell digits is_utf8 chars encode is_word read_checkpoint
older_suffix = λ r. true≢false (sym r.0)

pub no_base_reader : IsTrue (is_suffix day_8) × IsRotatable (files_after (moment moving one_rotated)) path
unfolding read spell digits is_utf8 chars encode is_word read_checkpoint
no_base_reader = (refl, rotatable moving one_rotated refl refl)

pub older_suffix_alone : ObeysBut TheRule (moment moving one_rotated) (turns (Rotated day_8) (LogTurned path day_8) (moment moving one_rotated))
unfolding read spell digits is_utf8 chars encode is_word read_checkpoint
older_suffix_alone = record {
  honest = record {
    modelled = record { effect = record { did = LogTurned path day_8; may = (refl, refl); files_left = λ n. refl; logs_left = λ p. refl }; small = omega arith };
    agrees = tt;
  };
  named = refl;
  starts = refl;
  own_files = tt;
  logs = refl;
  requests = tt;
  rule = tt;
}

pub newer_suffix : may_turn (Rotated day_10) (moment moving one_rotated)
unfolding read spell digits is_utf8 chars encode is_word read_checkpoint
newer_suffix = (refl, rotatable moving one_rotated refl refl)

-- a generation is deleted only where each line of the path has passed it

pub deleted_early : may_turn (Deleted day_9) (moment moving one_rotated) → ⊥
unfolding read spell digits is_utf8 chars encode is_word read_checkpoint
deleted_early = λ r. true≢false (r.1 (codes "h1") moving (0, omega arith, refl) refl)

pub is_there : IsTrue (list_any (λ g. bytes_eq g.suffix day_9) (one_rotated path).rotated)
unfolding read spell digits is_utf8 chars encode is_word read_checkpoint
is_there = refl

pub deleted_early_alone : ObeysBut TheRule (moment moving one_rotated) (turns (Deleted day_9) (LogDropped path day_9) (moment moving one_rotated))
unfolding read spell digits is_utf8 chars encode is_word read_checkpoint
deleted_early_alone = record {
  honest = record {
    modelled = record { effect = record { did = LogDropped path day_9; may = refl; files_left = λ n. refl; logs_left = λ p. refl }; small = omega arith };
    agrees = tt;
  };
  named = refl;
  starts = refl;
  own_files = tt;
  logs = refl;
  requests = tt;
  rule = tt;
}

pub deleted_passed : may_turn (Deleted day_9) (moment past_9 one_rotated)
unfolding read spell digits is_utf8 chars encode is_word read_checkpoint
deleted_passed = (refl, passed past_9 one_rotated refl day_9 refl)

-- and only one that is there

pub deleted_none : may_turn (Deleted day_8) (moment past_9 one_rotated) → ⊥
unfolding read spell digits is_utf8 chars encode is_word read_checkpoint
deleted_none = λ r. true≢false (sym r.0)

pub is_passed : IsPassed (files_after (moment past_9 one_rotated)) path day_8
unfolding read spell digits is_utf8 chars encode is_word read_checkpoint
is_passed = passed past_9 one_rotated refl day_8 refl

pub deleted_none_alone : ObeysBut TheRule (moment past_9 one_rotated) (turns (Deleted day_8) (LogDropped path day_8) (moment past_9 one_rotated))
unfolding read spell digits is_utf8 chars encode is_word read_checkpoint
deleted_none_alone = record {
  honest = record {
    modelled = record { effect = record { did = LogDropped path day_8; may = refl; files_left = λ n. refl; logs_left = λ p. refl }; small = omega arith };
    agrees = tt;
  };
  named = refl;
  starts = refl;
  own_files = tt;
  logs = refl;
  requests = tt;
  rule = tt;
}
