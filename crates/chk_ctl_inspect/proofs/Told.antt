-- Texts that are printed in turn.
use Rattle.std.proofs.Common.{◌≡◌, ◌∙◌, ap, sym, subst, refl, ℕ, ◌+◌, ◌<◌, ◌≤◌, zero, suc}
use Rattle.std.proofs.Common.{List, [], ◌∷◌, ◌++◌, append_assoc, length, take, drop, get_or, Option, Result, Ok, Err}
use Rattle.std.specs.Prelude.{flat_map}
use Rattle.std.proofs.lemmas.List.{take_all}
use Rattle.chk_site.specs.declared.acts.OutsideFault.{OutsideFault}
use Rattle.chk_site.specs.declared.acts.Who.{Who}
use Rattle.chk_site.specs.History.{History}
use Rattle.chk_world.specs.Sight.{job}
use Rattle.chk_ctl_status.specs.Telling.{Tells}
use Rattle.chk_site.specs.declared.acts.ActAnswer.{ActAnswer}
use Rattle.chk_site.specs.declared.acts.CallFault.{CallFault}
use Rattle.chk_site.specs.History.{Every}
use Rattle.chk_site.specs.Site.{Adds, Calls}
use Rattle.chk_site.proofs.Runs.{adds_as, adds_then, every_join}
use Rattle.chk_replace.proofs.CallSteps.{call_each, OfOwn}
use Rattle.chk_world.specs.JobSteps.{IsOf}
use Rattle.chk_cmd_output.specs.Printing.{printing}
use Rattle.chk_ctl_status.specs.Telling as telling
use Rattle.chk_ctl_status_rows.specs.Sinks.{says, LooksAround}
use Rattle.chk_ctl_machine.specs.Inspecting.{Inspects}
use Rattle.chk_ctl_machine.proofs.Inspections.{looks}
use Rattle.chk_ctl_machine.proofs.Causes.{own_as, own_none}
use Rattle.chk_ctl_machine.proofs.Steps.{take_more}
use Rattle.std.proofs.Common.{inl, inr}
use Rattle.chk_ctl_line.specs.declared.status.Form.{Form}
use Rattle.chk_ctl_inspect.specs.declared.kept.Sight.{Sight}
use Rattle.chk_ctl_inspect.specs.Reporting.{all_told, one_told, refused, told as said, unbegun}
use Rattle.chk_ctl_inspect.specs.Reporting.{TellsAll, TellsSight}

-- one text, by the job
pub tells_as : {who : Who} {text : List ℕ} {result : Result (Unit {0}) OutsideFault}
    {old new : Option History} → who ≡ job → Tells who text result old new
    → Tells job text result old new
tells_as {text = text} {result = result} {old = old} {new = new} is tells =
    subst (λ (w : Who). Tells w text result old new) is tells

pub tells_one : {who : Who} {text : List ℕ} (result : Result (Unit {0}) OutsideFault)
    {old new : Option History} → who ≡ job → Tells who text result old new
    → TellsAll (text ∷ []) result old new
tells_one (Ok value) is tells = one_told (tells_as is tells) all_told
tells_one (Err fault) is tells = refused (tells_as is tells)

-- some behind others
pub tells_join : {xs ys : List (List ℕ)} {result : Result (Unit {0}) OutsideFault}
    {old mid new : Option History} → TellsAll xs (Ok tt) old mid → TellsAll ys result mid new
    → TellsAll (xs ++ ys) result old new
tells_join all_told rest = rest
tells_join (one_told first more) rest = one_told first (tells_join more rest)

pub tells_stop : {xs : List (List ℕ)} (ys : List (List ℕ)) {fault : OutsideFault}
    {old new : Option History} → TellsAll xs (Err fault) old new
    → TellsAll (xs ++ ys) (Err fault) old new
tells_stop ys (one_told first more) = one_told first (tells_stop ys more)
tells_stop ys (refused tells) = refused tells

flat_map_join : {A B : Type 0} (f : A → List B) (xs ys : List A)
    → flat_map f (xs ++ ys) ≡ flat_map f xs ++ flat_map f ys
flat_map_join f [] ys = refl
flat_map_join f (x ∷ xs) ys =
    ap (λ l. f x ++ l) (flat_map_join f xs ys)
    ∙ sym (append_assoc (f x) (flat_map f xs) (flat_map f ys))

append_none : {A : Type 0} (xs : List A) → xs ++ [] ≡ xs
append_none [] = refl
append_none (x ∷ xs) = ap (λ l. x ∷ l) (append_none xs)

-- those of the first so many, and of one more
texts_more : {A : Type 0} (f : A → List (List ℕ)) (xs : List A) (i : ℕ) (d : A) → i < length xs
    → flat_map f (take (i + 1) xs) ≡ flat_map f (take i xs) ++ f (get_or xs i d)
texts_more f xs i d low =
    ap (flat_map f) (take_more xs i d low)
    ∙ (flat_map_join f (take i xs) (get_or xs i d ∷ [])
    ∙ ap (λ l. flat_map f (take i xs) ++ l) (append_none (f (get_or xs i d))))

pub tells_more : {A : Type 0} (f : A → List (List ℕ)) (xs : List A) (i : ℕ) (d : A)
    {old mid new : Option History} → i < length xs
    → TellsAll (flat_map f (take i xs)) (Ok tt) old mid
    → TellsAll (f (get_or xs i d)) (Ok tt) mid new
    → TellsAll (flat_map f (take (i + 1) xs)) (Ok tt) old new
tells_more f xs i d {old = old} {new = new} low before last =
    subst (λ (texts : List (List ℕ)). TellsAll texts (Ok tt) old new)
    (sym (texts_more f xs i d low)) (tells_join before last)

-- the list is the first so many, and the rest
split_at : {A : Type 0} (xs : List A) (i : ℕ) → take i xs ++ drop i xs ≡ xs
split_at [] zero = refl
split_at [] (suc i) = refl
split_at (x ∷ xs) zero = refl
split_at (x ∷ xs) (suc i) = ap (λ l. x ∷ l) (split_at xs i)

pub tells_end : {A : Type 0} (f : A → List (List ℕ)) (xs : List A) (i : ℕ) (d : A)
    {fault : OutsideFault} {old mid new : Option History} → i < length xs
    → TellsAll (flat_map f (take i xs)) (Ok tt) old mid
    → TellsAll (f (get_or xs i d)) (Err fault) mid new
    → TellsAll (flat_map f xs) (Err fault) old new
tells_end f xs i d {fault = fault} {old = old} {new = new} low before last =
    subst (λ (texts : List (List ℕ)). TellsAll texts (Err fault) old new)
    (ap (λ l. l ++ flat_map f (drop (i + 1) xs)) (sym (texts_more f xs i d low))
    ∙ (sym (flat_map_join f (take (i + 1) xs) (drop (i + 1) xs))
    ∙ ap (flat_map f) (split_at xs (i + 1))))
    (tells_stop (flat_map f (drop (i + 1) xs)) (tells_join before last))

pub tells_whole : {A : Type 0} (f : A → List (List ℕ)) (xs : List A) (i : ℕ)
    {result : Result (Unit {0}) OutsideFault} {old new : Option History} → length xs ≤ i
    → TellsAll (flat_map f (take i xs)) result old new → TellsAll (flat_map f xs) result old new
tells_whole f xs i {result = result} {old = old} {new = new} high told =
    subst (λ (l : List _). TellsAll (flat_map f l) result old new) (take_all i xs high) told

-- whoever prints makes no other calls
say_own : (text : List ℕ) → OfOwn (IsOf LooksAround) (printing job text)
say_own text = λ before answer files logs running honest.
    inr (record { own = refl; running = running; honest = honest; by = refl }, says _)

said_own : (text : List ℕ) (answer : Result ActAnswer CallFault) {old new : Option History}
    → Adds old new (Calls (printing job text) answer) → Adds old new (Every Inspects)
said_own text answer told =
    own_as (IsOf LooksAround) (λ before step x. looks x)
    (adds_as (Every (IsOf LooksAround)) told
    (λ steps history calls.
    call_each (IsOf LooksAround) answer (λ before step theirs. inl theirs) (say_own text) calls))

tell_own : {text : List ℕ} {result : Result (Unit {0}) OutsideFault} {old new : Option History}
    → Tells job text result old new → Adds old new (Every Inspects)
tell_own (telling.untold {now = now}) = own_none now
tell_own {text = text} (telling.told told) = said_own text _ told
tell_own {text = text} (telling.ended given ends told) = said_own text _ told

pub tells_own : {texts : List (List ℕ)} {result : Result (Unit {0}) OutsideFault}
    {old new : Option History} → TellsAll texts result old new → Adds old new (Every Inspects)
tells_own (all_told {now = now}) = own_none now
tells_own (one_told first more) =
    adds_then (Every Inspects) (tell_own first) (tells_own more)
    (λ a b history p q. every_join Inspects b a history p q)
tells_own (refused tells) = tell_own tells

pub sight_own : {form : Form} {s : Sight} {result : Result (Unit {0}) OutsideFault}
    {old new : Option History} → TellsSight form s result old new → Adds old new (Every Inspects)
sight_own (unbegun {now = now}) = own_none now
sight_own (said told) = tells_own told.told
