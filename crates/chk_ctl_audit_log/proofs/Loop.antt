-- The reads so far, and what the hasher took of them.
use Rattle.std.proofs.Common.{◌≡◌, ℕ, ◌+◌, ◌-◌, ◌<◌, ◌≤◌, false, List, [], ◌++◌, length, take}
use Rattle.std.proofs.Common.{Option, refl, sym, ◌∙◌, ap, subst, arith, length-append}
use Rattle.std.proofs.lemmas.List.{take_all}
use Rattle.chk_site.specs.declared.acts.Who.{Who}
use Rattle.chk_site.specs.History.{History}
use Rattle.chk_rotate.specs.Readers.{Reader}
use Rattle.sha2.specs.declared.Sha256.{Sha256}
use Rattle.sha2.specs.Hashers.{Holds256}
use Rattle.chk_ctl_audit_log.specs.Summing.{Reads, none, more, TookBytes}
use Rattle.chk_ctl_audit_log.proofs.Gave.{stepped_on, taken_more}

-- the reader has read this text, and the hasher has its first bytes, up to the end
pub record SoFar (who : Who) (from now : Reader) (end : ℕ) (h : Sha256)
    (before here : Option History) : Type 0 where
  pub text : List ℕ
  pub reads : Reads who from text now before here
  pub plain : now.lines ≡ false
  pub path : now.path ≡ from.path
  pub place : now.read.offset ≡ from.read.offset + length text
  pub holds : Holds256 h (take (end - from.read.offset) text)

pub begun : (who : Who) (from : Reader) (end : ℕ) (h : Sha256) (here : Option History)
    → from.lines ≡ false → Holds256 h [] → SoFar who from from end h here here
begun who from end h here plain holds = record {
  text = [];
  reads = none;
  plain = plain;
  path = refl;
  place = (let z : from.read.offset ≡ from.read.offset + 0 = omega arith in z);
  holds =
      subst (Holds256 h)
      (sym (take_all (end - from.read.offset) []
      (let z : 0 ≤ end - from.read.offset = omega arith in z)))
      holds;
}

pub goes_on : (who : Who) (from now next : Reader) (end most : ℕ) (h k : Sha256)
    {before here new : Option History} → SoFar who from now end h before here
    → now.read.offset < end → most ≡ end - now.read.offset
    → TookBytes who most now next h k here new
    → SoFar who from next end k before new × (now.read.offset < next.read.offset)
goes_on who from now next end most h k so below is t =
    let s = stepped_on who now next t.bytes t.end so.plain t.stepped in
    let place = so.place in
    let further = s.0.0 in
    let some = s.0.1 in
    let low : length so.text ≤ end - from.read.offset = omega (arith, place, below) in
    let rest : end - from.read.offset - length so.text ≡ most = omega (arith, place, below, is) in (
      record {
        text = so.text ++ t.bytes;
        reads = more so.reads t.stepped;
        plain = s.1;
        path = s.2 ∙ so.path;
        place =
            further
            ∙ (ap (λ n. n + length t.bytes) place
            ∙ (let z : from.read.offset + length so.text + length t.bytes
            ≡ from.read.offset + (length so.text + length t.bytes) = omega arith in z
            ∙ ap (λ n. from.read.offset + n) (sym (length-append so.text t.bytes))));
        holds =
            subst (Holds256 k)
            (sym (taken_more so.text t.bytes (end - from.read.offset) low
            ∙ ap (λ n. take (end - from.read.offset) so.text ++ take n t.bytes) rest))
            (t.holds (take (end - from.read.offset) so.text) so.holds);
      },
      omega (arith, further, some),
    )
