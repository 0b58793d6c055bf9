-- Two lines about one name lie a minute apart.
use Rattle.std.proofs.Common.{◌≡◌, ◌≤◌, ◌+◌, ◌-◌, ℕ, Bool, true, false, ◌&&◌, List, [], ◌∷◌, Some, None, refl, subst, ◌∙◌, arith}
use Rattle.std.specs.Prelude.{Option, not, ◌==◌, if◌then◌else◌}
use Rattle.std.proofs.lemmas.Bool.{and_parts, leb-true}
use Rattle.chk_site_log.specs.declared.trouble.Trouble.{Trouble}
use Rattle.chk_site_log.specs.Troubles.{is_free, rested, well_of}
use Rattle.chk_site_log.specs.Lines.{Kind, Failed, Well, Other, Event, step, tells, behind, lines, last, IsMinuteBehind, AreApart, MinuteApart}

success : (t : Trouble) (now : ℕ) (z d f : Bool)
    → (if z then t
    else (if not d then rested t
    else (if f then record (rested t) { said = Some now }
    else record t { well = Some (well_of now t.well) }))).said
    ≡ (if not z && (d && f) then Some now else t.said)
success t now true d f = refl
success t now false false f = refl
success t now false true true = refl
success t now false true false = refl

said_behind : (k : Kind) (now : ℕ) (t : Trouble)
    → (step k now t).said ≡ (if tells k now t then Some now else t.said)
said_behind Failed now t = refl
said_behind Well now t = success t now (t.failures == 0) t.told (is_free now t.said)
said_behind Other now t = refl

newest : (b : Bool) (now : ℕ) (said : Option ℕ) (moments : List ℕ) → said ≡ last moments
    → (if b then Some now else said) ≡ last (if b then now ∷ moments else moments)
newest true now said moments e = refl
newest false now said moments e = e

said_is : (t : Trouble) (events : List Event) → t.said ≡ None
    → (behind events t).said ≡ last (lines events t)
said_is t [] fresh = fresh
said_is t (e ∷ events) fresh =
    said_behind e.kind e.at (behind events t)
    ∙ newest (tells e.kind e.at (behind events t)) e.at (behind events t).said (lines events t)
    (said_is t events fresh)

free : (k : Kind) (now : ℕ) (t : Trouble) → tells k now t ≡ true → is_free now t.said ≡ true
free Failed now t h = (and_parts (not t.told) (is_free now t.said) h).1
free Well now t h =
    (and_parts t.told (is_free now t.said)
    (and_parts (not (t.failures == 0)) (t.told && is_free now t.said) h).1).1
free Other now t h = h

over : (said now : ℕ) → 60000 ≤ now - said → said + 60000 ≤ now
over said now le = omega (arith, le)

minute : (now : ℕ) (said : Option ℕ) → is_free now said ≡ true → IsMinuteBehind now said
minute now None h = tt
minute now (Some said) h = over said now (leb-true 60000 (now - said) h)

more : (b : Bool) (now : ℕ) (moments : List ℕ) → (b ≡ true → IsMinuteBehind now (last moments))
    → AreApart moments → AreApart (if b then now ∷ moments else moments)
more true now moments behind apart = (behind refl, apart)
more false now moments behind apart = apart

pub apart : MinuteApart
apart t [] fresh = tt
apart t (e ∷ events) fresh =
    let so_far = behind events t in
    more (tells e.kind e.at so_far) e.at (lines events t)
    (λ h. subst (IsMinuteBehind e.at) (said_is t events fresh)
    (minute e.at so_far.said (free e.kind e.at so_far h)))
    (apart t events fresh)
