-- Any two results that a public function's contract allows coincide (`Coincide` of `rules`).
use Rattle.rules.specs.Coincide.{Coincide, AnyTwo}
use Rattle.rules.proofs.Coincide.{value}
use Rattle.pages.specs.Lent.{SamePage}
use Rattle.pages.proofs.Once.{same_page}
use Rattle.replies.specs.contracts.reply_number as reply-number
use Rattle.replies.specs.contracts.refusal_number as refusal_number
use Rattle.replies.specs.contracts.put_reply as put-reply
use Rattle.replies.specs.contracts.put_piece as put-piece
use Rattle.replies.specs.contracts.put_answer as put-answer
use Rattle.replies.specs.contracts.put_reply_line as put-reply-line
use Rattle.replies.specs.contracts.put_end as put-end

pub reply_number_once : Coincide reply-number.ended (λ M 𝓤 𝓛. reply-number.clauses 𝓛)
reply_number_once w x g = value w

pub refusal_number_once : Coincide refusal_number.ended (λ M 𝓤 𝓛. refusal_number.clauses 𝓛)
refusal_number_once w x g = value w

pub put_reply_once : AnyTwo put-reply.ended (λ M 𝓤 𝓛. put-reply.clauses 𝓛) (λ x. SamePage x.left.0 x.left'.0)
put_reply_once w x g = same_page w

pub put_piece_once : AnyTwo put-piece.ended (λ M 𝓤 𝓛. put-piece.clauses 𝓛) (λ x. SamePage x.left.0 x.left'.0)
put_piece_once w x g = same_page w

pub put_answer_once : AnyTwo put-answer.ended (λ M 𝓤 𝓛. put-answer.clauses 𝓛) (λ x. SamePage x.left.0 x.left'.0)
put_answer_once w x g = same_page w

pub put_reply_line_once : AnyTwo put-reply-line.ended (λ M 𝓤 𝓛. put-reply-line.clauses 𝓛) (λ x. SamePage x.left.0 x.left'.0)
put_reply_line_once w x g = same_page w

pub put_end_once : AnyTwo put-end.ended (λ M 𝓤 𝓛. put-end.clauses 𝓛) (λ x. SamePage x.left.0 x.left'.0)
put_end_once w x g = same_page w
