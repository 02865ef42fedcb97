-- The addresses of the handler and of the return stay multiples of 4.
use Rattle.std.proofs.Common.{◌≡◌, ℕ, ◌*◌, ◌/◌, ◌%◌, Bool, true, false, eqb, refl, arith}
use Rattle.std.specs.Prelude.{bit_and}
use Rattle.core_words.specs.Values.{bits_of}
use Rattle.isa_csr.specs.Csrs.{Csrs, IsCsrs, reset_csrs, interrupt_bits, csr_write, trap_entry, trap_return}

pub reset_keeps : (misa : ℕ) → IsCsrs (reset_csrs misa)
reset_keeps misa = record { mtvec = refl; mepc = refl }

pub entry_keeps : (c : Csrs) (pc cause tval : ℕ) → pc % 4 ≡ 0 → IsCsrs c → IsCsrs (trap_entry c pc cause tval)
entry_keeps c pc cause tval p h = record { mtvec = h.mtvec; mepc = p }

pub return_keeps : (c : Csrs) → IsCsrs c → IsCsrs (trap_return c)
return_keeps c h = record { mtvec = h.mtvec; mepc = h.mepc }

cleared : (value : ℕ) → value / 4 * 4 % 4 ≡ 0
cleared value = omega arith

either : (b : Bool) (x y : Csrs) → IsCsrs x → IsCsrs y → IsCsrs (elim b [ true ↦ x | false ↦ y ])
either true x y h k = h
either false x y h k = k

-- a change of other registers than these two
others : (c : Csrs) → IsCsrs c → (mie_bit mpie_bit misa mie mscratch mcause mtval : ℕ)
    → IsCsrs (record c { mie_bit = mie_bit; mpie_bit = mpie_bit; misa = misa; mie = mie; mscratch = mscratch; mcause = mcause; mtval = mtval })
others c h mie_bit mpie_bit misa mie mscratch mcause mtval = record { mtvec = h.mtvec; mepc = h.mepc }

pub write_keeps : (c : Csrs) (number value : ℕ) → IsCsrs c → IsCsrs (csr_write c number value)
write_keeps c number value h =
    either (eqb number 0x300) _ _ (others c h (bits_of value 3 3) (bits_of value 7 7) c.misa c.mie c.mscratch c.mcause c.mtval)
    (either (eqb number 0x304) _ _ (others c h c.mie_bit c.mpie_bit c.misa (bit_and value interrupt_bits) c.mscratch c.mcause c.mtval)
    (either (eqb number 0x305) _ _ (record { mtvec = cleared value; mepc = h.mepc })
    (either (eqb number 0x340) _ _ (others c h c.mie_bit c.mpie_bit c.misa c.mie value c.mcause c.mtval)
    (either (eqb number 0x341) _ _ (record { mtvec = h.mtvec; mepc = cleared value })
    (either (eqb number 0x342) _ _ (others c h c.mie_bit c.mpie_bit c.misa c.mie c.mscratch value c.mtval)
    (either (eqb number 0x343) _ _ (others c h c.mie_bit c.mpie_bit c.misa c.mie c.mscratch c.mcause value) h))))))
