use Rattle.std.proofs.Common.{◌≡◌, ◌+◌, ◌++◌, ◌∷◌, [], false, take, drop, slice_index, sym, ap, refl, ◌∙◌, append-nil}
use Rattle.std.proofs.Common.{append_assoc, subst, true, arith}
use Rattle.std.proofs.lemmas.List.{take_more}
use Rattle.std.specs.List.{list_all}
use Rattle.dw_notation.specs.inner.Tags.{passes}
use Rattle.dw_notation.specs.inner.HeldSection.{held_of, sections_ahead}
use Rattle.dw_notation.proofs.BetweenLemmas.{take-one_more, whole_rest}
use Rattle.dw_notation.proofs.PassingLemmas.{pass_all}
use Rattle.dw_notation.proofs.problems.pdn.Sections.cut.Goals as goal

pub bytes-init : goal.bytes-init
bytes-init c = record {
  within = c.passed-at.ensures.within;
  same = λ g at_end more. pass_all at_end g c.args.self.now.state (held_of c.args.self.now.section)
      (take c.passed-at.result c.args.bytes.now) more c.passed-at.ensures.passed;
}

pub returns-then-add-clause-some : goal.returns-then-add-clause-some
returns-then-add-clause-some c =
    let bytes = c.args.bytes.now in
    let old = c.args.self.now in
    let byte = slice_index bytes c.bytes.at in
    record {
      within = omega arith;
      cut = c.if-add.ensures.cut refl;
      before = λ g. ap (sections_ahead false g old) (sym (append-nil (take c.bytes.at bytes)))
          ∙ c.bytes.invariant.same g false [];
      said = λ g at_end more. ap (λ l. sections_ahead at_end g old (l ++ more)) (take_more bytes c.bytes.at 0 (omega
          arith)) ∙ ap (sections_ahead at_end g old) (append_assoc (take c.bytes.at bytes) (byte ∷ []) more)
          ∙ c.bytes.invariant.same g at_end (byte ∷ more) ∙ c.if-add.ensures.said g at_end more;
    }

pub bytes-preserved : goal.bytes-preserved
bytes-preserved c =
    let bytes = c.args.bytes.now in
    let old = c.args.self.now in
    let n = c.passed-at-in-bytes.result in
    let byte = slice_index bytes c.bytes.at in
    let passed = take n (drop (c.bytes.at + 1) bytes) in
    record {
      within = omega (arith, c.passed-at-in-bytes.ensures.within);
      same = λ g at_end more. ap (λ l. sections_ahead at_end g old (l ++ more)) (take-one_more c.bytes.at n bytes (omega
          arith)) ∙ ap (sections_ahead at_end g old) (append_assoc (take c.bytes.at bytes) (byte ∷ passed) more)
          ∙ c.bytes.invariant.same g at_end (byte ∷ (passed ++ more))
          ∙ c.if-add.ensures.said g at_end (passed ++ more)
          ∙ pass_all at_end g c.add.new.self.state (held_of c.add.new.self.section) passed more
          (subst (λ l. list_all (passes c.add.new.self.state) (take n l) ≡ true) (whole_rest (c.bytes.at + 1) bytes)
          c.passed-at-in-bytes.ensures.passed);
    }
