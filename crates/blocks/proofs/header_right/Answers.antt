-- `blocks::header_right` meets its contract: its head is right where at least one is, and where the signature is right the zeros decide.
use Rattle.std.proofs.Common.{sym, ◌∙◌, lt-ltb, le-ltb}
use Rattle.base.proofs.BoolLaws.{clashes}
use Rattle.blocks.proofs.Heading.{headed-first, header-parts}
use Rattle.blocks.proofs.header_right.Goals as goal
use Rattle.blocks.proofs.header_right.Goals.{then-heads-gt0, else-heads-gt0}

pub returns-then-signature_right : goal.returns-then-signature_right
returns-then-signature_right c =
    elim c.if-heads-gt0.branch [
      | then-heads-gt0 w ↦
          let signed = sym w.signature_right.ensures ∙ sym w.value-is ∙ c.if-signature_right.true in
          let headed = sym (headed-first _ _ c.requires) ∙ lt-ltb _ _ w.if-heads-gt0.true in
          rw (header-parts, headed, signed) c.zeros.ensures
      | else-heads-gt0 w ↦ absurd (clashes c.if-signature_right.true (w.value-is ∙ le-ltb _ _ w.if-heads-gt0.false))
    ]
