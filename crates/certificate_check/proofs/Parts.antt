-- Of lent flags only those of the nodes count: a certificate's first flags, one a node, are a certificate.
use Rattle.prelude.proofs.{ℕ, ◌<◌, arith, ◌≡◌, sym, ap, ◌∙◌, List, get_or, take, length-take, get_or-take}
use Rattle.gametree.specs.declared.Side.{Side}
use Rattle.gametree.specs.declared.Side.TheVariants.{Max, Min}
use Rattle.gametree.specs.{inside}
use Rattle.gametree_theory.proofs.Certificates.Checker.{certificate-passes, passed-certifies}
use Rattle.gametree_theory.proofs.Certificates.SmallestPair.{Same, certificate-like, value_same}
use Rattle.table.specs.{frames, tree, valuation}
use Rattle.table.proofs.Acceptance.{accepted-formed}
use Rattle.table.proofs.Nodes.{tree-range}
use Rattle.certificate_check.specs.{member}
use Rattle.certificate_check.specs.Certificate.{Certificate}

-- the flags of the nodes are a certificate of the same value
pub certificate-part : (t flags : List ℕ) {v : ℕ} → Certificate t flags v → Certificate t (take (frames t) flags) v
certificate-part t flags {v} c =
    let own = take (frames t) flags in
    let wf = accepted-formed t c.accepted in
    let l = c.enough in
    let flag : (k : ℕ) → k < frames t → get_or own k 0 ≡ get_or flags k 0 = λ k h. get_or-take (frames t) flags k 0 h in
    let same : (p : Side) → Same (member p flags) (member p own) (tree t) =
    λ p k i. ap (inside p) (sym (flag k (tree-range t wf 0 wf.non_empty k i).1)) in
    let d = passed-certifies (valuation t) (tree t) (member Max own) (member Min own)
    (certificate-like (valuation t) (tree t) _ _ _ _ (same Max) (same Min)
    (certificate-passes (valuation t) (tree t) _ _ v c.certifies)) in
    let e = sym (value_same Max (valuation t) _ _ (tree t) (same Max)) ∙ c.certifies.max_value in
    record {
      accepted = c.accepted;
      enough = simp length-take (omega arith);
      in_range = λ i h. rw (flag i h) (c.in_range i h);
      certifies = rw e at d;
    }
