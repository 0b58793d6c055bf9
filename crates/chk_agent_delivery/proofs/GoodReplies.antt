-- Which replies are good ones.
use Rattle.std.proofs.Common.{◌≡◌, inl, inr, ℕ, List, Result, Ok, Err, refl}
use Rattle.std.specs.Prelude.{◌↔◌}
use Rattle.chk_http_grammar.specs.Messages.{Ack, IsReply, acks_text}
use Rattle.chk_http.specs.declared.fault.HttpFault.{HttpFault}
use Rattle.chk_http.specs.declared.reply.ReplyRef.{ReplyRef}
use Rattle.chk_http.specs.Replies.{GivesReply}
use Rattle.chk_http.specs.Lines.{IsLines}
use Rattle.chk_agent_delivery.specs.Scripts.{IsNoPostReply, IsCode}

module _ (bytes : List ℕ) where
  abbrev Reads : Result ReplyRef HttpFault → Type 0
  Reads result = (code : ℕ) (body : List ℕ) → GivesReply result code body ↔ IsReply code body bytes

  pub other_code : (count : ℕ) (reply : ReplyRef) → Reads (Ok reply) → (reply.code ≡ 200 → ⊥)
      → IsNoPostReply count bytes × IsCode bytes reply.code
  other_code count reply reads other = (
    λ acks good many. other ((reads 200 (acks_text acks)).1 good.1).0,
    inl (reply.body.now, (reads reply.code reply.body.now).0 (refl, refl)),
  )

  pub other_lines : (count : ℕ) (reply : ReplyRef) → Reads (Ok reply) → reply.code ≡ 200
      → ((acks : List Ack) → IsLines count acks reply.body.now → ⊥) → IsNoPostReply count bytes × IsCode bytes 200
  other_lines count reply reads code none = (
    λ acks good many.
        none acks (record { many = many; are = good.0; is = ((reads 200 (acks_text acks)).1 good.1).1 }),
    inl (reply.body.now, (reads 200 reply.body.now).0 (code, refl)),
  )

  pub unread : (count : ℕ) (fault : HttpFault) → Reads (Err fault) → IsNoPostReply count bytes × IsCode bytes 0
  unread count fault reads = (
    λ acks good many. (reads 200 (acks_text acks)).1 good.1,
    inr (refl, λ code body is. (reads code body).1 is),
  )
