use Rattle.std.proofs.Common.{◌≡◌, ◌≤◌, ℕ, List, [], ◌∷◌, length, refl, sym, ◌∙◌, ap, arith}
use Rattle.std.specs.Prelude.{option_to_list}
use Rattle.chk_site.specs.declared.acts.ActAnswer.TheVariants.{Done}
use Rattle.chk_site.specs.declared.suffixes.Piece.{Piece}
use Rattle.chk_site.specs.History.{logs_after}
use Rattle.chk_site.specs.Logs.{part_of, read_from}
use Rattle.chk_site.specs.Site.{part_text, piece_given}
use Rattle.chk_site_mem_store.specs.Reads.{shown_of}
use Rattle.chk_site_mem_store.specs.Told.{told_of}
use Rattle.chk_site_mem_calls.proofs.PlanLemmas.{ends_past, gives_may, log_given, most_given, plans_done}
use Rattle.chk_site_mem_calls.proofs.log_calls.LogReadQuestion.plan.Goals as goal

pub returns-clause-plans : goal.returns-clause-plans
returns-clause-plans c =
    let s = c.args.self.now in
    let h = told_of c.args.keeper.now.kept in
    let text = part_text s.part in
    let shown = c.read_from-shown.result in
    let bytes = c.in_ok-from_slice.field-0 in
    let ends = c.in_ok-ended.ended in
    let piece : Piece = record { bytes = bytes; ended = ends } in
    let seen = read_from (part_of text) (logs_after h s.path.now) in
    let same : shown_of shown ≡ seen =
    cc (c.read_from-shown.ensures.shown, c.in_ok-words.ensures.part, c.log.ensures, c.as_bytes-path.ensures.value) in
    let within : s.at ≤ length shown.bytes.now = omega arith in
    plans_done c.give.result _ _ _ (s.path.now ∷ text ∷ []) s.at s.max piece_given c.args.keeper.now _ piece c.give.ensures
    (c.in_ok-words.ensures.words ∙ ap (λ (p : List ℕ). p ∷ text ∷ []) c.as_bytes-path.ensures.value)
    (c.worded-answer.ensures ∙ ap (λ (w : List (List ℕ)). Done w 0 0)
    (c.in_ok-piece_words.ensures ∙ ap (λ (b : List ℕ). b ∷ option_to_list ends) (sym c.in_ok-from_slice.ensures)))
    (log_given seen (shown_of shown) s.at s.max bytes (option_to_list ends) same within
    (c.in_ok-from_slice.ensures ∙ c.piece-bytes.ensures) c.in_ok-ended.ensures)
    tt refl

pub returns-clause-may : goal.returns-clause-may
returns-clause-may c =
    let s = c.args.self.now in
    let is = c.in_ok-from_slice.ensures ∙ c.piece-bytes.ensures in
    gives_may c.give.result _ _ _ c.give.ensures
    (tt, most_given _ s.max _ is, ends_past s.part _ _ _ c.read_from-shown.ensures.past c.in_ok-ended.ensures)
