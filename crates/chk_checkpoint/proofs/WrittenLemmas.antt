-- The text that is written.
use Rattle.std.proofs.Common.{◌≡◌, ℕ, List, [], ◌∷◌, ◌++◌, map, ap, sym, ◌∙◌, append_assoc, append-nil, decimal, Result, Ok, Err}
use Rattle.std.specs.Prelude.{codes, ◌==◌, OnOk}
use Rattle.std.specs.List.{list_all}
use Rattle.std.proofs.lemmas.List.Folds.{list_all-map}
use Rattle.chk_bytes.specs.Words.{joined}
use Rattle.chk_control.specs.Classes.{class_name}
use Rattle.chk_world.specs.Checkpoints.{Line, Version as Text, One, Two, after_text, line_text, version_text, checkpoint_text, fits_version}
use Rattle.chk_checkpoint.specs.declared.CheckLine.{CheckLine}
use Rattle.chk_checkpoint.specs.Lines.{shown, state_word}
use Rattle.chk_checkpoint.specs.Fields.{start_end, stream_text, place_text}
use Rattle.chk_checkpoint.proofs.ListLemmas.{joined_on, map_on}

-- the version where all starts are 0
pub all_from_0 : (lines : List CheckLine) → list_all (fits_version One) (map shown lines) ≡ list_all (λ (l : CheckLine). l.start == 0) lines
all_from_0 lines = list_all-map (fits_version One) shown lines

-- one line more
pub line_more : (v : Text) (lines : List Line) (l : Line)
    → checkpoint_text v (lines ++ l ∷ []) ≡ checkpoint_text v lines ++ line_text v l
line_more v lines l =
    ap (λ rest. version_text v ++ 10 ∷ rest)
    (ap joined (map_on (line_text v) lines (l ∷ [])) ∙ joined_on (map (line_text v) lines) (line_text v l ∷ [])
    ∙ ap (λ last. joined (map (line_text v) lines) ++ last) (append-nil (line_text v l)))
    ∙ sym (append_assoc (version_text v) (10 ∷ joined (map (line_text v) lines)) (line_text v l))

pub on_ok : {T E : Type 0} (r : Result T E) {A B : Type 0} → (A → B) → OnOk r A → OnOk r B
on_ok (Ok x) f a = f a
on_ok (Err e) f a = a

-- the pieces of a line, each behind those before it
pub stream_put : (l : Line) (old a b c d e f : List ℕ) → a ≡ old ++ state_word l.live ++ 32 ∷ [] → b ≡ a ++ l.name ++ 32 ∷ []
    → c ≡ b ++ codes "=" ++ 32 ∷ [] → d ≡ c ++ class_name l.class ++ 32 ∷ [] → e ≡ d ++ l.kind ++ 32 ∷ [] → f ≡ e ++ l.path ++ 32 ∷ []
    → f ≡ old ++ stream_text l
stream_put l old a b c d e f ea eb ec ed ee ef = rw (ef, ee, ed, ec, eb, ea) (simp append_assoc)

pub place_put : (v : Text) (l : Line) (old g h i j k : List ℕ) → g ≡ old ++ decimal l.offset ++ 32 ∷ [] → h ≡ g ++ decimal l.first ++ 32 ∷ []
    → i ≡ h ++ after_text l.after → j ≡ i ++ start_end v l.start → k ≡ j ++ 10 ∷ [] → k ≡ old ++ place_text v l
place_put v l old g h i j k eg eh ei ej ek = rw (ek, ej, ei, eh, eg) (simp append_assoc)

-- both parts are the line
pub parts_put : (v : Text) (l : Line) (old a b : List ℕ) → a ≡ old ++ stream_text l → b ≡ a ++ place_text v l → b ≡ old ++ line_text v l
parts_put One l old a b ea eb = rw (eb, ea) (simp append_assoc)
parts_put Two l old a b ea eb = rw (eb, ea) (simp append_assoc)
