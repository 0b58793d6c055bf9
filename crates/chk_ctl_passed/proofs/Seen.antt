-- What a call shows of the oldest generation of a log.
use Rattle.std.proofs.Common.{◌≡◌, ℕ, ◌+◌, ◌-◌, ◌≤◌, true, false, Bool, List, [], ◌∷◌, ◌++◌}
use Rattle.std.proofs.Common.{length, take, drop, Option, Some, None, Ok, refl, sym, ◌∙◌, ap}
use Rattle.std.proofs.Common.{subst, append_assoc, arith, min, option_to_list}
use Rattle.std.specs.Prelude.{nat_le, ◌==◌, nat_lt, codes, ◌^◌, is_some}
use Rattle.std.proofs.lemmas.List.{length-take, length-drop}
use Rattle.std.proofs.Common.{Err, inl, inr}
use Rattle.std.proofs.lemmas.Bool.{ltb-false, eqb-true, le-leb}
use Rattle.chk_site.specs.declared.acts.Who.{Who}
use Rattle.chk_site.specs.declared.acts.Call.TheVariants.{LogRead, LogNewest}
use Rattle.chk_site.specs.declared.acts.CallFault.TheVariants.{Short}
use Rattle.chk_site.specs.declared.suffixes.Piece.{Piece}
use Rattle.chk_site.specs.Logs.{Past, read_from}
use Rattle.chk_site.specs.Logs.{Log, Generation, Shown, newest, first_shown, shown_after, ended}
use Rattle.chk_site.specs.History.{History, logs_after}
use Rattle.chk_site.specs.Honest.{AtLogRead, AtNewest}
use Rattle.chk_site.specs.Site.{Adds, asked, answered, Calls, piece_given, suffix_given}
use Rattle.chk_site.proofs.Runs.{adds_as, ran}
use Rattle.chk_ctl_passed.specs.Oldest.{oldest, GotShort, WasShort, LastSaw, SawNewest, SawRead, came_of, further}

-- where no newest generation is there, none is
none_shown : (gs : List Generation) (base : List ℕ) → newest gs ≡ None
    → (first_shown (shown_after None gs base)).suffix ≡ None
none_shown [] base h = refl
none_shown (g ∷ gs) base h =
    by (λ e. none_shown gs base e) (newest gs) refl g.deleted refl
  where
    by : (newest gs ≡ None → (first_shown (shown_after None gs base)).suffix ≡ None)
        → (r : Option (List ℕ)) → newest gs ≡ r → (d : Bool) → g.deleted ≡ d
        → (first_shown (shown_after None (g ∷ gs) base)).suffix ≡ None
    by rest (Some s) e d is =
        let x : newest (g ∷ gs) ≡ Some s = rw e refl in
        absurd (let y : Some s ≡ None = sym x ∙ h in cc)
    by rest None e true is = rw is (rest e)
    by rest None e false is =
        let x : newest (g ∷ gs) ≡ Some g.suffix = rw (e, is) refl in
        absurd (let y : Some g.suffix ≡ None = sym x ∙ h in cc)

-- a suffix that was given is that of the generation
ended_is : (suffix : Option (List ℕ)) (reached : Bool) (s : List ℕ)
    → s ∷ [] ≡ ended suffix reached → suffix ≡ Some s
ended_is None reached s h = absurd (let x : s ∷ [] ≡ [] = h in cc)
ended_is (Some t) true s h = let x : s ∷ [] ≡ t ∷ [] = h in cc
ended_is (Some t) false s h = absurd (let x : s ∷ [] ≡ [] = h in cc)

-- where none was given at a generation's end, it is the base file
not_ended : (suffix : Option (List ℕ)) (reached : Bool) → reached ≡ true
    → [] ≡ ended suffix reached → suffix ≡ None
not_ended None reached is h = refl
not_ended (Some t) true is h = absurd (let x : [] ≡ t ∷ [] = h in cc)
not_ended (Some t) false is h = absurd (let x : false ≡ true = is in cc)

tails : {X : Type 0} (x y : X) (xs ys : List X) → x ∷ xs ≡ y ∷ ys → (x ≡ y) × (xs ≡ ys)
tails x y xs ys h = (cc, cc)

read_suffix : (g : Shown) (at : ℕ) (piece : Piece) (s : List ℕ) → piece.ended ≡ Some s
    → AtLogRead (piece_given piece) at 131072 g → g.suffix ≡ Some s
read_suffix g at piece s e (low, words) =
    let p = tails piece.bytes (take 131072 (drop at g.bytes)) (option_to_list piece.ended)
    (ended g.suffix (nat_le (length g.bytes) (at + 131072))) words in
    ended_is g.suffix (nat_le (length g.bytes) (at + 131072)) s
    (sym (ap (λ o. option_to_list o) e) ∙ p.1)

reached : (n at : ℕ) → at ≤ n → min 131072 (n - at) ≡ 0 → nat_le n (at + 131072) ≡ true
reached n at low none = le-leb n (at + 131072) (omega (arith, low, none))

read_base : (g : Shown) (at : ℕ) (piece : Piece) → piece.ended ≡ None → length piece.bytes ≡ 0
    → AtLogRead (piece_given piece) at 131072 g → g.suffix ≡ None
read_base g at piece e none (low, words) =
    let p = tails piece.bytes (take 131072 (drop at g.bytes)) (option_to_list piece.ended)
    (ended g.suffix (nat_le (length g.bytes) (at + 131072))) words in
    not_ended g.suffix (nat_le (length g.bytes) (at + 131072))
    (reached (length g.bytes) at low (sizes g.bytes ∙ (sym (ap length p.0) ∙ none)))
    (sym (ap (λ o. option_to_list o) e) ∙ p.1)
  where
    sizes : (bytes : List ℕ) → min 131072 (length bytes - at) ≡ length (take 131072 (drop at bytes))
    sizes bytes =
        sym (length-take 131072 (drop at bytes)
        ∙ ap (λ n. min 131072 n) (length-drop at bytes))

too_long : (g : Shown) (at : ℕ) (piece : Piece)
    → nat_lt (at + length piece.bytes) (2 ^ 64) ≡ false
    → AtLogRead (piece_given piece) at 131072 g → 2 ^ 64 ≤ length g.bytes
too_long g at piece past (low, words) =
    let p = tails piece.bytes (take 131072 (drop at g.bytes)) (option_to_list piece.ended)
    (ended g.suffix (nat_le (length g.bytes) (at + 131072))) words in
    let size : length piece.bytes ≡ min 131072 (length g.bytes - at) =
    ap length p.0
    ∙ (length-take 131072 (drop at g.bytes)
    ∙ ap (λ n. min 131072 n) (length-drop at g.bytes)) in
    let over : 2 ^ 64 ≤ at + length piece.bytes = ltb-false (at + length piece.bytes) (2 ^ 64) past in
    omega (arith, low, size, over)

-- a read that was refused as too far
pub saw_short : (who : Who) (path : List ℕ) (at size : ℕ) {old new : Option History}
    → Adds old new (Calls (asked who LogRead (path ∷ codes "-" ∷ []) at 131072)
    (answered piece_given (Err (Short size))))
    → Adds old new (GotShort path)
saw_short who path at size told =
    adds_as (GotShort path) told
    (λ a h calls.
    let acted = ran (Err (Short size)) (λ e. cc) calls in
    inl (subst WasShort (sym acted.added_is) (refl, refl, (size, refl))))

-- the call that reads a piece
abbrev pub Read : Who → List ℕ → ℕ → Piece → Option History → Option History → Type 0
Read who path at piece old new =
    Adds old new (Calls (asked who LogRead (path ∷ codes "-" ∷ []) at 131072)
    (answered piece_given (Ok piece)))

saw_by : (who : Who) (path : List ℕ) (at : ℕ) (piece : Piece) (P : Log → Type 0)
    {old new : Option History}
    → ((log : Log) → AtLogRead (piece_given piece) at 131072
    (first_shown (shown_after None log.rotated log.base)) → P log)
    → Read who path at piece old new → Adds old new (LastSaw path P)
saw_by who path at piece P so told =
    adds_as (LastSaw path P) told
    (λ a h calls.
    let acted = ran (Ok (piece_given piece)) (λ e. cc) calls in
    subst (λ (x : History). LastSaw path P x h) (sym acted.added_is)
    (so (logs_after (acted.others ++ h) path) acted.honest.agrees))

-- what a piece shows
pub saw_read : (who : Who) (path : List ℕ) (at : ℕ) (piece : Piece) {old new : Option History}
    → Read who path at piece old new → Adds old new (SawRead path (Ok (came_of piece at)))
saw_read who path at piece {old = old} {new = new} told = by piece.ended refl
  where
    count : ℕ
    count = length piece.bytes

    rest : (b c : Bool) → (count == 0) ≡ b → nat_lt (at + count) (2 ^ 64) ≡ c
        → piece.ended ≡ None → Adds old new (SawRead path (Ok (further count at)))
    rest true c none fits e =
        rw none (saw_by who path at piece (λ log. oldest log ≡ None)
        (λ log x. read_base (first_shown (shown_after None log.rotated log.base)) at piece e
        (eqb-true count 0 none) x) told)
    rest false true none fits e = rw (none, fits) (adds_as _ told (λ a h calls. tt))
    rest false false none fits e =
        rw (none, fits) (adds_as (GotShort path)
        (saw_by who path at piece (λ log. 2 ^ 64 ≤ length (read_from (Past None) log).bytes)
        (λ log x. too_long (first_shown (shown_after None log.rotated log.base)) at piece fits x)
        told) (λ a h x. inr x))

    by : (o : Option (List ℕ)) → piece.ended ≡ o
        → Adds old new (SawRead path (Ok (came_of piece at)))
    by (Some s) e =
        rw e (saw_by who path at piece (λ log. oldest log ≡ Some s)
        (λ log x. read_suffix (first_shown (shown_after None log.rotated log.base)) at piece s e x)
        told)
    by None e = rw e (rest (count == 0) (nat_lt (at + count) (2 ^ 64)) refl refl e)

-- no newest one shows that none is there
pub saw_newest : (who : Who) (path : List ℕ) {old new : Option History}
    → Adds old new (Calls (asked who LogNewest (path ∷ []) 0 0) (answered suffix_given (Ok None)))
    → Adds old new (LastSaw path (λ log. oldest log ≡ None))
saw_newest who path told =
    adds_as (LastSaw path (λ log. oldest log ≡ None)) told
    (λ a h calls.
    let acted = ran (Ok (suffix_given None)) (λ e. cc) calls in
    subst (λ (x : History). LastSaw path (λ log. oldest log ≡ None) x h) (sym acted.added_is)
    (none_at (logs_after (acted.others ++ h) path) acted.honest.agrees))
  where
    none_at : (log : Log) → AtNewest (suffix_given None) (newest log.rotated)
        → oldest log ≡ None
    none_at log x = by (newest log.rotated) refl x
      where
        by : (n : Option (List ℕ)) → newest log.rotated ≡ n → AtNewest (suffix_given None) n
            → oldest log ≡ None
        by None e y = none_shown log.rotated log.base e
        by (Some s) e y = absurd (let z : [] ≡ s ∷ [] = y in cc)

-- what the last call saw, later calls before it don't change
pub saw_later : (path : List ℕ) (P : Log → Type 0) (b a h : History)
    → LastSaw path P b (a ++ h) → LastSaw path P (b ++ a) h
saw_later path P [] a h x = absurd x
saw_later path P (step ∷ b) a h x =
    subst (λ (k : History). P (logs_after k path)) (sym (append_assoc b a h)) x

-- what the question for the newest one shows
pub saw_some : (who : Who) (path : List ℕ) (found : Option (List ℕ)) {old new : Option History}
    → Adds old new (Calls (asked who LogNewest (path ∷ []) 0 0) (answered suffix_given (Ok found)))
    → Adds old new (SawNewest path (Ok (is_some found)))
saw_some who path None told = saw_newest who path told
saw_some who path (Some suffix) told =
    adds_as (SawNewest path (Ok true)) told (λ a h x. tt)
