use Rattle.std.proofs.Common.{length, ◌≡◌, ◌∙◌, ℕ, zero, suc, ◌<◌, List, [], ◌∷◌, ◌++◌, take, get_or, codes, Some, None, Option, Ok, refl, ap, sym, add-one, arith, append-nil}
use Rattle.std.specs.Fmt.{◌++?◌}
use Rattle.std.proofs.Output.{displays_on_IsOk_append, displays_on_ok_of_eq, then_text_assoc}
use Rattle.routes.specs.Routes.{printed}
use Rattle.routes.proofs.route.RouteDisplay.fmt.Goals as goal

one_alone : (a : List ℕ) (o : Option (List ℕ)) → Some [] ++? Some a ++? o ≡ Some a ++? o ++? Some []
one_alone a None = refl
one_alone a (Some b) = ap (λ (l : List ℕ). Some (a ++ l)) (sym (append-nil b))

printed_one_more : {N : Type 0} (text : N → Option (List ℕ)) (nodes : List N) (i : ℕ) (d : N) → i < length nodes
    → printed text (take i nodes) ++? Some (codes " ") ++? text (get_or nodes i d) ≡ printed text (take (suc i) nodes)
printed_one_more text [] i d lt = absurd (omega arith)
printed_one_more text (node ∷ nodes) zero d lt = one_alone (codes " ") (text node)
printed_one_more text (node ∷ nodes) (suc i) d lt =
    then_text_assoc (Some (codes " ")) (text node ++? printed text (take i nodes)) _
    ∙ ap (λ o. Some (codes " ") ++? o) (then_text_assoc (text node) (printed text (take i nodes)) _
    ∙ ap (λ o. text node ++? o) (printed_one_more text nodes i d (omega arith)))

pub loop-node-preserved : goal.loop-node-preserved
loop-node-preserved g c =
    let took = g.W.Write.write_str_gives in
    let text = g.N.Display.output in
    let before = printed text (take c.loop-node.node-index c.args.self.now.nodes.now) in
    displays_on_ok_of_eq took c.args.f.now c.write.new.self (Ok tt) _ _
    (ap (λ node. before ++? Some (codes " ") ++? text node) c.node-item.is
    ∙ printed_one_more text c.args.self.now.nodes.now c.loop-node.node-index c.node-item.result c.loop-node-test.true
    ∙ ap (λ n. printed text (take n c.args.self.now.nodes.now)) (sym (add-one c.loop-node.node-index)))
    (displays_on_IsOk_append took c.args.f.now c.loop-node.f c.write.new.self (Ok tt) (Ok tt) before _ (λ ok. ok) c.loop-node.invariant c.in_ok-write.ensures.writes)
