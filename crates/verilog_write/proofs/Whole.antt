-- The text of a netlist is that of its parts.
use Rattle.std.proofs.Common.{◌≡◌, ℕ, Bool, List, [], ◌∷◌, ◌++◌, length, refl, ap, sym, ◌∙◌, append_assoc, codes}
use Rattle.std.specs.Fmt.{digits}
use Rattle.core_ports.specs.Ports.{all_ports, name_of}
use Rattle.hw_pool.specs.declared.node.Node.{Node}
use Rattle.hw_module.specs.Rows.{ModuleValue}
use Rattle.verilog_tree.specs.Signs as sign
use Rattle.verilog_tree.specs.Lexemes.{Word, Mark}
use Rattle.verilog_netlist.specs.Text.{Piece, joined, ports_pieces, lines_pieces, end_pieces, head, space, tight, text_of}
use Rattle.module_netlist.specs.Lines.{ports_from, netlist_of, module_lines, from_regs, from_arrays, from_nodes, from_drives, from_nexts, from_writes, from_outs, wire_line, reg_line, array_line, node_line, drive_line, next_line, write_line}
use Rattle.verilog_write.specs.declared.netlist.TheConstants.{HEAD}
use Rattle.verilog_write.specs.Sections.{lines_text, section, made_text, driven_text}
use Rattle.verilog_write.proofs.Joins.{joined-append, section_more, lines_then}

-- the pieces up to the first line
head_pieces : List Piece
head_pieces = tight (Word (codes "module")) ∷ space (Word (codes "core")) ∷ tight (Mark sign.Open)
    ∷ ports_pieces (ports_from all_ports) (head (Mark sign.Close) ∷ tight (Mark sign.Semicolon) ∷ [])

head_text : joined head_pieces [] ≡ HEAD.now
unfolding head_pieces name_of digits
head_text = refl

driven_lines : (m : ModuleValue) (nodes : List Node) (marks : List Bool) → lines_text (from_drives m nodes marks) ≡ driven_text m
unfolding driven_text section
driven_lines m nodes marks =
    section_more (drive_line m) (length m.wires) (from_nexts m nodes marks)
    ∙ ap (λ l. section (drive_line m) (length m.wires) ++ l) (section_more (next_line m) (length m.regs) (from_writes m nodes marks)
    ∙ ap (λ l. section (next_line m) (length m.regs) ++ l) (section_more (write_line m) (length m.arrays) (from_outs m nodes marks)))

node_lines : (m : ModuleValue) (nodes : List Node) (marks : List Bool)
    → lines_text (from_nodes m nodes marks) ≡ section (node_line m nodes marks) (length nodes) ++ driven_text m
node_lines m nodes marks =
    section_more (node_line m nodes marks) (length nodes) (from_drives m nodes marks)
    ∙ ap (λ l. section (node_line m nodes marks) (length nodes) ++ l) (driven_lines m nodes marks)

all_lines : (m : ModuleValue) (nodes : List Node) (marks : List Bool)
    → lines_text (module_lines m nodes marks) ≡ made_text m ++ (section (node_line m nodes marks) (length nodes) ++ driven_text m)
unfolding made_text
all_lines m nodes marks =
    let w = section (wire_line m) (length m.wires) in
    let r = section (reg_line m) (length m.regs) in
    let a = section (array_line m) (length m.arrays) in
    let rest = section (node_line m nodes marks) (length nodes) ++ driven_text m in
    section_more (wire_line m) (length m.wires) (from_regs m nodes marks)
    ∙ ap (λ l. w ++ l) (section_more (reg_line m) (length m.regs) (from_arrays m nodes marks)
    ∙ ap (λ l. r ++ l) (section_more (array_line m) (length m.arrays) (from_nodes m nodes marks) ∙ ap (λ l. a ++ l) (node_lines m nodes marks)))
    ∙ ap (λ l. w ++ l) (sym (append_assoc r a rest)) ∙ sym (append_assoc w (r ++ a) rest)

-- the text of a module's netlist, part by part
pub netlist_text : (m : ModuleValue) (nodes : List Node) (marks : List Bool)
    → text_of (netlist_of m nodes marks) ≡ HEAD.now ++ ((made_text m ++ (section (node_line m nodes marks) (length nodes) ++ driven_text m)) ++ codes "\nendmodule\n")
unfolding text_of head_pieces name_of digits
netlist_text m nodes marks =
    joined-append head_pieces (lines_pieces (module_lines m nodes marks) end_pieces) (codes "\n")
    ∙ ap (λ l. l ++ joined (lines_pieces (module_lines m nodes marks) end_pieces) (codes "\n")) head_text
    ∙ ap (λ l. HEAD.now ++ l) (lines_then (module_lines m nodes marks) end_pieces (codes "\n") ∙ ap (λ l. l ++ codes "\nendmodule\n") (all_lines m nodes marks))

-- parts that were appended one behind another
pub written_whole : (m : ModuleValue) (nodes : List Node) (marks : List Bool) (o p q r s t : List ℕ) → o ≡ [] → p ≡ o ++ HEAD.now → q ≡ p ++ made_text m
    → r ≡ q ++ section (node_line m nodes marks) (length nodes) → s ≡ r ++ driven_text m → t ≡ s ++ codes "\nendmodule\n" → t ≡ text_of (netlist_of m nodes marks)
written_whole m nodes marks o p q r s t e f g h i j =
    let n = section (node_line m nodes marks) (length nodes) in
    let end = codes "\nendmodule\n" in
    j ∙ ap (λ l. l ++ end) (i ∙ ap (λ l. l ++ driven_text m) (h ∙ ap (λ l. l ++ n) (g ∙ ap (λ l. l ++ made_text m) (f ∙ ap (λ l. l ++ HEAD.now) e)))
    ∙ append_assoc (HEAD.now ++ made_text m) n (driven_text m) ∙ append_assoc HEAD.now (made_text m) (n ++ driven_text m))
    ∙ append_assoc HEAD.now (made_text m ++ (n ++ driven_text m)) end
    ∙ sym (netlist_text m nodes marks)
