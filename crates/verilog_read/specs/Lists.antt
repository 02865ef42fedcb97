-- The lists of a module, as they grow in the loops of the code.
use Rattle.std.specs.Prelude.{ℕ, zero, suc, List, [], ◌∷◌, ◌++◌, Ok, Err, codes}
use Rattle.verilog_tree.specs.Signs as sign
use Rattle.verilog_tree.specs.declared.tree.Item.{Item}
use Rattle.verilog_tree.specs.declared.tree.PortDecl.{PortDecl}
use Rattle.verilog_tree.specs.Readers.{Wrong, ◌>>=◌, Reader, expect, is_mark}
use Rattle.verilog_tree.specs.Read.{is_word, by_next, item, port}

-- the items that were found and those that follow, of which there are fewer than n
unfoldable pub items_from : ℕ → List Item → Reader (List Item)
items_from zero found ts = Err (Wrong ts)
items_from (suc n) found ts = by_next (is_word (codes "endmodule")) (λ us. Ok (found, us)) (λ us. item us >>= λ i. items_from n (found ++ i.0 ∷ []) i.1) ts

-- the ports that were found and those that follow, of which there are at most n
unfoldable pub ports_from : ℕ → List PortDecl → Reader (List PortDecl)
ports_from zero found ts = Err (Wrong ts)
ports_from (suc n) found ts = port ts >>= λ p. by_next (is_mark sign.Comma) (λ us. expect sign.Comma us >>= λ c. ports_from n (found ++ p.0 ∷ []) c.1) (λ us. expect sign.Close us >>= λ c. Ok (found ++ p.0 ∷ [], c.1)) p.1
