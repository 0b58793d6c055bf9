use Rattle.std.proofs.Common.{◌≡◌, ℕ, ◌-◌, ◌≤◌, List, [], ◌++◌, Option, None, Some, length, take, drop, refl, sym, ap, ◌∙◌, subst, append_assoc, append-nil, drop_of_length-le, arith, rules}
use Rattle.std.proofs.lemmas.List.{length-append, take-append-drop, take_rest}
use Rattle.std.proofs.Math.Seq.{take-append_seam}
use Rattle.std.specs.Io.KnownBytes.{Appends, Keeps}
use Rattle.std.proofs.KnownBytes.{Appends-kept, Appends-trans}
use Rattle.chk_site_sockets.proofs.streams.write_before.Goals as goal

-- what was written and what is left are all of it
moves_front : (all done rest : List ℕ) (n : ℕ) → all ≡ done ++ rest
    → all ≡ (done ++ take n rest) ++ take (length rest - n) (drop n rest)
moves_front all done rest n e =
    e ∙ ap (λ l. done ++ l) (sym (take-append-drop n rest))
    ∙ sym (append_assoc done (take n rest) (drop n rest))
    ∙ ap (λ l. (done ++ take n rest) ++ l) (sym (take_rest rest n))

-- a front was written
front_put : (all done rest : List ℕ) (a b c : Option (List ℕ)) → all ≡ done ++ rest
    → Appends a b done → Keeps b c
    → (count : ℕ) × (count ≤ length all) × Appends a c (take count all)
front_put all done rest a b c split put kept = (
  length done,
  omega (arith, ap length split, length-append done rest),
  subst (Appends a c)
      (sym (ap (λ l. take (length done) l) split ∙ take-append_seam done rest))
      (Appends-kept a b c done put kept),
)

kept : (a : Option (List ℕ)) → Keeps a a
kept None = tt
kept (Some x) = refl

pub loop-preserved : goal.loop-preserved
loop-preserved g c =
    let (done, split, put) = c.loop.invariant in
    let rest = c.loop.rest.now in
    let count = c.in-Ok.count in (
      done ++ take count rest,
      moves_front _ done rest count split,
      Appends-trans _ _ _ _ _ put c.in-Ok.ensures.bytes,
    )

pub returns-in-Err : goal.returns-in-Err
returns-in-Err g c =
    let (done, split, put) = c.loop.invariant in
    front_put c.args.bytes.now done c.loop.rest.now _ _ _ split put c.in-Err.ensures.bytes

pub returns-then-is_empty : goal.returns-then-is_empty
returns-then-is_empty g c =
    let (done, split, put) = c.loop.invariant in
    let empty : c.loop.rest.now ≡ [] = drop_of_length-le c.loop.rest.now {i = 0} (search rules) in
    subst (Appends _ _) (sym (split ∙ ap (λ l. done ++ l) empty ∙ append-nil done)) put

pub returns : goal.returns
returns g c =
    let (done, split, put) = c.loop.invariant in
    let same = g.S.Write.contents c.loop.stream in
    front_put c.args.bytes.now done c.loop.rest.now _ same same split put (kept same)
