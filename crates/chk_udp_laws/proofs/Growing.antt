-- What is saved only grows.
use Rattle.std.proofs.Common.{◌≡◌, ℕ, Bool, true, false, ◌&&◌, List, [], ◌++◌, bytes_eq, if◌then◌else◌, refl, sym}
use Rattle.std.proofs.lemmas.List.{append-nil}
use Rattle.chk_site.specs.declared.acts.ActAnswer.{ActAnswer}
use Rattle.chk_site.specs.Files.{Files}
use Rattle.chk_site.specs.Acts.{Deed, Starts, ReadsLog, AsksNewest, GrowsLog, Creates, Appends, Syncs, Renames, Removes, Cuts, AsksSize, Reads, Lists, AsksClock, Pauses, Sends, Gets, Takes, TakesMore, Answers, Says, deed, is_done}
use Rattle.chk_site.specs.History.{files_after, is_by, took_effect}
use Rattle.chk_wahead.specs.Names.{writer, buffer_name, mark_name}
use Rattle.chk_udp_laws.specs.Marked.{Tally, tally, tally_by, added, saved_all}
use Rattle.chk_udp_laws.specs.Laws.{SavedGrows}

abbrev Grows : Tally → Tally → Type 0
Grows t u = (more : List (List ℕ)) × (u.saved ≡ t.saved ++ more)

same : (t : Tally) → Grows t t
same t = ([], sym (append-nil t.saved))

either : (b : Bool) (t u v : Tally) → Grows t u → Grows t v → Grows t (if b then u else v)
either true t u v x y = x
either false t u v x y = y

added_grows : (done : Bool) (bytes : List ℕ) (t : Tally) → Grows t (added done bytes t)
added_grows true bytes t = same t
added_grows false bytes t = same t

by_grows : (n : List ℕ) (call : Deed) (answer : ActAnswer) (before after : Files) (t : Tally)
    → Grows t (tally_by n call answer before after t)
by_grows n Starts answer before after t = same t
by_grows n (Appends name bytes) answer before after t =
    either (bytes_eq name (buffer_name n)) t (added (is_done answer) bytes t) t
    (added_grows (is_done answer) bytes t) (same t)
by_grows n (Renames old new) answer before after t =
    either (bytes_eq new (mark_name n) && took_effect before after old) t (saved_all t) t
    (t.unsaved, refl) (same t)
by_grows n (ReadsLog path part at max) answer before after t = same t
by_grows n (AsksNewest path) answer before after t = same t
by_grows n (GrowsLog path piece) answer before after t = same t
by_grows n (Creates name) answer before after t = same t
by_grows n (Syncs name) answer before after t = same t
by_grows n (Removes name) answer before after t = same t
by_grows n (Cuts name k) answer before after t = same t
by_grows n (AsksSize name) answer before after t = same t
by_grows n (Reads name at max) answer before after t = same t
by_grows n (Lists folder) answer before after t = same t
by_grows n AsksClock answer before after t = same t
by_grows n (Pauses ms) answer before after t = same t
by_grows n (Sends number door bytes) answer before after t = same t
by_grows n (Gets number) answer before after t = same t
by_grows n (Takes door wait) answer before after t = same t
by_grows n (TakesMore number) answer before after t = same t
by_grows n (Answers number bytes) answer before after t = same t
by_grows n (Says bytes) answer before after t = same t

pub saved_grows : SavedGrows
saved_grows n history step =
    either (is_by (writer n) step) (tally n history)
    (tally_by n (deed step.act) step.act.answer (files_after history) step.files (tally n history))
    (tally n history)
    (by_grows n (deed step.act) step.act.answer (files_after history) step.files (tally n history))
    (same (tally n history))
