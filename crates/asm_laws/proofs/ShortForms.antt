-- The short forms mean what they say.
use Rattle.std.proofs.Common.{◌≡◌, ℕ, ◌+◌, ◌*◌, ◌/◌, ◌%◌, ◌^◌, ◌<◌, ◌≤◌, inl, inr, List, [], ◌∷◌, length, Some, option_map, sym, ap, subst, ◌∙◌, arith, bit_or}
use Rattle.std.proofs.lemmas.Bool.{cases_Bool}
use Rattle.mips_instruction.specs.declared.instruction.Ins.{Ins}
use Rattle.mips_instruction.specs.declared.instruction.Ins.TheVariants.{Addiu, Addu, Beq, Lui, Ori, Sll}
use Rattle.mips_instruction.specs.Words.{i_word, instruction_of_word, r_word, word_of}
use Rattle.mips_instruction.specs.Numbers.{next_address, number_modulo_word, target as branch_target}
use Rattle.xom_base.specs.declared.step.Writes.TheVariants as writes
use Rattle.mips_effect.specs.declared.seen.Mode.{Mode}
use Rattle.mips_effect.specs.Effects.{jumps, sets, write_of_register}
use Rattle.asm_tokens.specs.Integers.{whole}
use Rattle.asm_source.specs.declared.content.Content.TheVariants.{LoadNumber, LoadAddress}
use Rattle.mips_asm.specs.Encoding.{AreWords, load_halves, load_number, one_instruction, twos_complement}
use Rattle.mips_asm.specs.Layout.{in_range, limit}
use Rattle.asm_laws.specs.Runs.{Cells, StateOfLaw, cells_after_writes, effect_on, state}
use Rattle.asm_laws.specs.ShortForms.{BGoesToItsTarget, LaLoadsThePlace, LiLoadsTheNumber, Loads, MoveCopies, NopGoesOn, Sets}
use Rattle.asm_laws.proofs.Branching.{branch_field-target}
use Rattle.asm_laws.proofs.Computing.{addiu_zero, addu_zero, beq_zero, lui_any, ori_own, ori_zero, sll_zero}
use Rattle.asm_laws.proofs.Fetching.{Has, read_there, rest_there, word-length}
use Rattle.asm_laws.proofs.Numbers.{halves-or, signed_immediate_16, unsigned_16, wrapped_32}
use Rattle.asm_laws.proofs.Setting.{kept_in, kept_in-named, runs_one, set-seen, sets_one, sets_two}
use Rattle.asm_laws.proofs.Statements.{HasField, addu_at, b_is, code_as, gives_as, has_field, la_by_halves, la_is, li_by_addiu, li_by_halves, li_by_ori, li_is, move_is, nop_is, sll_at}

-- words have 32 bits
pub i_word-small : (op rs rt imm : ℕ) → op < 2 ^ 6 → rs < 32 → rt < 32 → imm < 2 ^ 16
    → i_word op rs rt imm < 2 ^ 32
i_word-small op rs rt imm op_fits rs_fits rt_fits imm_fits = omega arith

pub r_word-small : (rs rt rd function : ℕ) → rs < 32 → rt < 32 → rd < 32 → function < 2 ^ 6
    → r_word 0 rs rt rd 0 function < 2 ^ 32
r_word-small rs rt rd function rs_fits rt_fits rd_fits function_fits = omega arith

-- the same pair by other names
paired : (memory : List ℕ) (mode : Mode) (before : StateOfLaw)
    (count pc npc reg value next following : ℕ)
    → pc ≡ next → npc ≡ following → Sets memory mode before count pc npc reg value
    → Sets memory mode before count next following reg value
paired memory mode before count pc npc reg value next following pc_is npc_is sets =
    subst (λ (a : ℕ). Sets memory mode before count a following reg value) pc_is
    (subst (λ (b : ℕ). Sets memory mode before count pc b reg value) npc_is sets)

-- the length of code of one instruction, and of two
pub one_long : (own : List ℕ) (i : Ins) → AreWords (i ∷ []) own → length own ≡ 4
one_long own i words = word-length own i [] words ∙ ap (λ (more : List ℕ). 4 + length more) words.3

pub two_long : (own : List ℕ) (i j : Ins) → AreWords (i ∷ j ∷ []) own → length own ≡ 8
two_long own i j words =
    word-length own i (j ∷ []) words ∙ ap (λ (n : ℕ). 4 + n) (one_long words.0 j words.3)

-- one instruction that sets a register whatever the cells hold
loads_one : (memory own : List ℕ) (place reg value : ℕ) (i : Ins) → place + length own ≤ limit
    → Has memory place own → word_of i < 2 ^ 32 → AreWords (i ∷ []) own
    → ((mode : Mode) (cells : Cells) (pc npc : ℕ) → effect_on mode (state cells pc npc)
    (Some i) ≡ sets reg value npc)
    → Loads memory place (length own) reg value
loads_one memory own place reg value i inside has small words comes =
    let long : length own ≡ 4 = one_long own i words in record {
      count = 1;
      all_words = long;
      sets = λ mode cells.
          paired memory mode (state cells place (place + 4)) 1 (place + 4) (next_address (place + 4)) reg
          value (place + length own) (place + length own + 4) (omega (arith, long))
          (omega (arith, long, inside))
          (sets_one memory mode cells place (place + 4) reg value i
          (read_there memory own place i [] small words has)
          (comes mode cells place (place + 4)));
    }

-- the two halves of a number
loads_halves : (memory own : List ℕ) (place reg n : ℕ) → place + length own ≤ limit
    → Has memory place own → AreWords (load_halves reg n) own → Loads memory place (length own) reg n
loads_halves memory own place reg n inside has words =
    let upper : ℕ = n / 2 ^ 16 in
    let lower : ℕ = n % 2 ^ 16 in
    let long : length own ≡ 8 = two_long own (Lui reg upper) (Ori reg reg lower) words in
    let upper_there : instruction_of_word _ ≡ Some (Lui reg upper) =
    read_there memory own place (Lui reg upper) (Ori reg reg lower ∷ [])
    (i_word-small 15 0 reg upper (omega arith) (omega arith) words.1.0 words.1.1) words has in
    let lower_there : instruction_of_word _ ≡ Some (Ori reg reg lower) =
    read_there memory words.0 (place + 4) (Ori reg reg lower) []
    (i_word-small 13 reg reg lower (omega arith) words.3.1.0 words.3.1.0 (omega arith)) words.3
    (rest_there memory own place (Lui reg upper) (Ori reg reg lower ∷ []) words has) in
    record {
      count = 2;
      all_words = long;
      sets = λ mode cells.
          paired memory mode (state cells place (place + 4)) 2 (next_address (place + 4))
          (next_address (next_address (place + 4))) reg n (place + length own) (place + length own + 4)
          (omega (arith, long, inside)) (omega (arith, long, inside))
          (sets_two memory mode cells place (place + 4) reg (upper * 2 ^ 16)
          (bit_or (kept_in reg (upper * 2 ^ 16)) lower) n (Lui reg upper) (Ori reg reg lower)
          upper_there lower_there
          (lui_any mode cells place (place + 4) reg upper)
          (ori_own mode (cells_after_writes cells (write_of_register reg (upper * 2 ^ 16))) (place + 4)
          (next_address (place + 4)) reg lower (kept_in reg (upper * 2 ^ 16))
          (set-seen cells reg (upper * 2 ^ 16)))
          (λ named. ap (λ (u : ℕ). bit_or u lower) (kept_in-named reg (upper * 2 ^ 16) named)
          ∙ halves-or n));
    }

-- ---- li and la

pub li_loads : LiLoadsTheNumber
li_loads memory own labels place reg n stands =
    let code = gives_as memory own labels place _ _ (LoadNumber reg n) stands (li_is reg n) in
    elim (cases_Bool (in_range 32768 32767 n)) [
      | inl small ↦
          let words = code_as place (load_number reg n) _ own code (li_by_addiu reg n small) in
          loads_one memory own place reg (number_modulo_word (whole n)) (Addiu reg 0 (twos_complement 16 n))
          stands.inside stands.there (i_word-small 9 0 reg (twos_complement 16 n) (omega arith)
          (omega arith) words.1.0 words.1.2) words
          (λ mode cells pc npc. addiu_zero mode cells pc npc reg (twos_complement 16 n)
          ∙ ap (λ (v : ℕ). sets reg v npc) (signed_immediate_16 n small))
      | inr more ↦ elim (cases_Bool (in_range 0 65535 n)) [
        | inl low ↦
            let words = code_as place (load_number reg n) _ own code (li_by_ori reg n more low) in
            loads_one memory own place reg (number_modulo_word (whole n)) (Ori reg 0 n.magnitude) stands.inside
            stands.there (i_word-small 13 0 reg n.magnitude (omega arith) (omega arith) words.1.0
            words.1.2) words
            (λ mode cells pc npc. ori_zero mode cells pc npc reg n.magnitude
            ∙ ap (λ (v : ℕ). sets reg v npc) (unsigned_16 n low))
        | inr high ↦
            let found = li_by_halves reg n code.0 more high code.2 in
            subst (λ (v : ℕ). Loads memory place (length own) reg v) (wrapped_32 n found.0)
            (loads_halves memory own place reg (twos_complement 32 n) stands.inside stands.there
            (subst (λ (is : List Ins). AreWords is own) (sym found.1) code.3))
      ]
    ]

pub la_loads : LaLoadsThePlace
la_loads memory own labels place reg name address known stands =
    let code = gives_as memory own labels place _ _ (LoadAddress reg name) stands
    (la_is reg name) in
    let found = la_by_halves labels reg address name code.0 known code.2 in
    loads_halves memory own place reg address stands.inside stands.there
    (subst (λ (is : List Ins). AreWords is own) (sym found.1) code.3)

-- ---- move

pub move_copies : MoveCopies
move_copies memory own labels place a b v npc mode cells stands holds fits =
    let code = gives_as memory own labels place _ _ _ stands (move_is a b) in
    let words = code_as place _ (Addu a b 0 ∷ []) own code
    (ap (option_map one_instruction) (addu_at labels place a b)) in
    sets_one memory mode cells place npc a v (Addu a b 0) (read_there memory own place (Addu a b 0)
    [] (r_word-small b 0 a 33 words.1.1 words.1.2 words.1.0 (omega arith)) words stands.there)
    (addu_zero mode cells place npc a b v holds fits)

-- ---- nop and b

pub nop_goes : NopGoesOn
nop_goes memory own labels place npc mode cells stands =
    let code = gives_as memory own labels place _ _ _ stands nop_is in
    let words = code_as place _ (Sll 0 0 0 ∷ []) own code
    (ap (option_map one_instruction) (sll_at labels place)) in
    runs_one memory mode cells place npc (Sll 0 0 0) (sets 0 0 npc)
    (read_there memory own place (Sll 0 0 0) [] (r_word-small 0 0 0 0 (omega arith) (omega arith)
    (omega arith) (omega arith)) words stands.there)
    (sll_zero mode cells place npc)

pub b_goes : BGoesToItsTarget
b_goes memory own labels place target n mode cells known stands =
    let code = gives_as memory own labels place _ _ _ stands (b_is target) in
    let has : HasField place n own = has_field labels place target n own known code in
    let i : Ins = Beq 0 0 has.imm in
    let long = one_long own i has.code in
    runs_one memory mode cells place (place + 4) i
    (jumps writes.Nothing (branch_target (place + 4) has.imm) (place + 4))
    (read_there memory own place i [] (i_word-small 4 0 0 has.imm (omega arith) (omega arith)
    (omega arith) has.code.1.2) has.code stands.there)
    (beq_zero mode cells place (place + 4) has.imm)
    ∙ ap (λ (to : ℕ). Some (state cells (place + 4) to)) (branch_field-target place n.magnitude
    has.imm (omega (arith, long, stands.inside)) code.1 has.address has.words has.field)
