-- The rules stay over the event of a running guest.
use Rattle.std.proofs.Common.{◌≡◌, ◌⊎◌, inl, inr, ℕ, ◌+◌, ◌-◌, ◌/◌, ◌%◌, ◌≤◌, ◌==◌, Bool, true, false, List, All, Option, Some, None, Result, Ok, Err, IfSome, length, set, lit<, refl, sym, ◌∙◌, ap, subst, arith}
use Rattle.std.specs.Int.{w32, to_be_bytes}
use Rattle.std.proofs.lemmas.Bool.{cond_both}
use Rattle.std.proofs.lemmas.List.{get_or-set_same}
use Rattle.std.proofs.lemmas.List.Elements.{All-set}
use Rattle.hex.specs.Hex.{IsBytes}
use Rattle.xom_base.specs.declared.entry.Entry.TheVariants as entry
use Rattle.xom_base.specs.declared.event.Cause.{Cause}
use Rattle.xom_base.specs.declared.event.Cause.TheVariants as cause
use Rattle.xom_base.specs.declared.event.OwnFault.{OwnFault}
use Rattle.xom_base.specs.declared.event.OwnFault.TheVariants as own_fault
use Rattle.xom_base.specs.declared.event.Rule.{Rule}
use Rattle.xom_base.specs.declared.event.Rule.TheVariants as rule
use Rattle.xom_base.specs.declared.step.Released.{Released}
use Rattle.xom_base.specs.declared.step.Released.TheVariants as released
use Rattle.xom_base.specs.declared.step.Step.{Step}
use Rattle.xom_base.specs.declared.step.StepEnd.{StepEnd}
use Rattle.xom_base.specs.declared.step.StepEnd.TheVariants as ended
use Rattle.xom_base.specs.declared.step.Stored.{Stored}
use Rattle.xom_base.specs.declared.step.Stored.TheVariants as stored
use Rattle.xom_base.specs.declared.step.Writes.{Writes}
use Rattle.xom_base.specs.declared.step.Writes.TheVariants as writes
use Rattle.mips_instruction.specs.Words.{instruction_of_word}
use Rattle.mips_effect.specs.Effects.{Ranged}
use Rattle.mips_effect.specs.declared.effects.Effect.{Effect}
use Rattle.mips_effect.specs.declared.wish.Wish.{Wish}
use Rattle.mips_effect.specs.declared.wish.Wish.TheVariants as wish
use Rattle.mips_plain.specs.Instruction.{handler_after, instruction_or_fault, is_code, kept_after, step_made}
use Rattle.mips_plain.specs.Memory.{low_bytes, word_at_address}
use Rattle.journal_round_trip.specs.KeepsRules.{Is32Bit, KeepsCause, KeepsReleased, KeepsStep, KeepsWrites}
use Rattle.line_cache.specs.Ways.{free_way, way_at}
use Rattle.tag_regs.specs.declared.cell.Cell.{Cell}
use Rattle.tag_regs.specs.TaggedCells.{cell_at}
use Rattle.session_table.specs.declared.session.Session.{Session}
use Rattle.session_table.specs.declared.session.SlotState.TheVariants as state
use Rattle.session_table.specs.Sessions.{free, is_live, session_after_pause}
use Rattle.xom_versions.specs.Versions.{VersionLaw, Versions}
use Rattle.xom_model.specs.declared.reach.Reach.{Reach}
use Rattle.xom_model.specs.declared.reach.Reach.TheVariants as reach
use Rattle.xom_model.specs.Versions.{StandsFor}
use Rattle.xom_model.specs.State.{CoreState, core_with_session, ram_holds_range, session_of, with_cells}
use Rattle.xom_model.specs.Access.{access}
use Rattle.xom_model.specs.Guest.{address_in, after_effect, after_retirement, after_step, after_trap, cells_after_step, code_reached, core_after_step, data_of, data_reached, given_out, guest, null_word, received_by, retirement, seen_by, session_after_step, stored_at, stored_way, with_release, with_writes, word_in, word_loaded, word_tried}
use Rattle.xom_model.specs.Holds.{IsLive, IsRunning}
use Rattle.xom_model.specs.Null.{cause_argument}
use Rattle.xom_model.proofs.GuestKept.{address-low, code-low}
use Rattle.xom_model.proofs.RamSize.{length-given_out}
use Rattle.xom_model.proofs.SameSight.{tried-Ranged}
use Rattle.xom_model.proofs.Walk.{Parts, Reached, StoresIn, step-stores, walk_access}
use Rattle.journal_laws.specs.RulesOfRecord.{StoresKeepRules, IsShortCell, IsShortPair, IsSoundSession, IsSoundWay, RulesHold}
use Rattle.journal_laws.proofs.PlainBytes.{bytes-low, bytes-number, bytes-written}
use Rattle.journal_laws.proofs.RuledAccess.{Answers, access-holds, gone-holds}
use Rattle.journal_laws.proofs.RuledParts.{cell-short, live-came, live-within, noted-holds, session-on, session-sound, set-each, with_cells-holds, with_ram-holds, with_session-holds, ways-hold}
use Rattle.journal_laws.proofs.RuledSteps.{known-Fits, step_made-KeepsStep, tried-IsShortEffect, word_at-short}
use Rattle.journal_laws.proofs.ShortEffects.{IsShortEffect, IsShortSeen, IsShortWish}

-- ---- Cells

tagged-short : (slot : ℕ) (cells : List Cell) (w : Writes) → KeepsWrites w → All IsShortCell cells
    → All IsShortCell (with_writes slot cells w)
tagged-short slot cells writes.Nothing keeps short = short
tagged-short slot cells (writes.One reg value) keeps short =
    All-set IsShortCell cells reg (record { value = value; tag = slot }) keeps.2 short
tagged-short slot cells (writes.Pair hi lo) keeps short =
    All-set IsShortCell (set cells 32 (record { value = hi; tag = slot })) 33
    (record { value = lo; tag = slot }) keeps.1
    (All-set IsShortCell cells 32 (record { value = hi; tag = slot }) keeps.0 short)

untagged-short : (cells : List Cell) (out : Released) → KeepsReleased out → All IsShortCell cells
    → All IsShortCell (with_release cells out)
untagged-short cells released.Nothing keeps short = short
untagged-short cells (released.Cell reg value) keeps short =
    All-set IsShortCell cells reg (record { value = value; tag = 0 }) keeps.2 short
untagged-short cells (released.Null address value) keeps short = short

cells_after-short : (slot : ℕ) (cells : List Cell) (step : Step) → KeepsStep step
    → All IsShortCell cells → All IsShortCell (cells_after_step slot cells step)
cells_after-short slot cells step keeps short =
    untagged-short (with_writes slot cells step.writes) step.released keeps.5
    (tagged-short slot cells step.writes keeps.2 short)

-- ---- RAM

given_out-bytes : (ram : List ℕ) (out : Released) → IsBytes ram → IsBytes (given_out ram out)
given_out-bytes ram released.Nothing bytes = bytes
given_out-bytes ram (released.Cell reg value) bytes = bytes
given_out-bytes ram (released.Null address value) bytes =
    cond_both (ram_holds_range ram address 4) _ ram IsBytes
    (λ _. bytes-written ram address (to_be_bytes w32 value) bytes (bytes-number value))
    (λ _. bytes)

null_word-short : (ram : List ℕ) (address : ℕ) → IsBytes ram → Is32Bit (null_word ram address)
null_word-short ram address bytes =
    cond_both (ram_holds_range ram address 4) (word_at_address ram address) 0 Is32Bit
    (λ _. word_at-short ram address bytes) (λ _. lit< tt)

-- ---- What a step is made of

-- what comes from outside
received_by-short : (core : CoreState) (wished : Wish) → RulesHold core
    → Is32Bit (received_by core.cells core.ram wished)
received_by-short core (wish.Receive reg from) rules =
    cond_both ((cell_at core.cells from).tag == 0) (cell_at core.cells from).value 0 Is32Bit
    (λ _. cell-short core rules from) (λ _. lit< tt)
received_by-short core (wish.NullLoad reg address) rules =
    null_word-short core.ram address rules.ram
received_by-short core _ rules = lit< tt

seen_by-short : (core : CoreState) (slot : ℕ) → RulesHold core → (reg : ℕ)
    → IsShortSeen (seen_by slot core.cells reg)
seen_by-short core slot rules reg =
    cond_both (reg == 0) _ _ IsShortSeen (λ _. lit< tt)
    (λ _. cond_both ((cell_at core.cells reg).tag == slot) _ _ IsShortSeen
    (λ _. cell-short core rules reg) (λ _. tt))

word_loaded-short : (bytes : List ℕ) (wished : Wish) → IsBytes bytes
    → Is32Bit (word_loaded bytes wished)
word_loaded-short bytes (wish.Load reg address how old) each =
    word_at-short bytes ((address - address % 4) % 32) each
word_loaded-short bytes _ each = lit< tt

-- the handler and the kept pair after it
handler_after-short : (handler : ℕ) (wished : Wish) → Is32Bit handler → IsShortWish wished
    → Is32Bit (handler_after handler wished)
handler_after-short handler (wish.Hand address) short wished_short = wished_short
handler_after-short handler _ short wished_short = short

kept_after-short : (kept : Option (ℕ × ℕ)) (wished : Wish) → IfSome kept IsShortPair
    → IfSome (kept_after kept wished) IsShortPair
kept_after-short kept wish.SigRet short = tt
kept_after-short kept _ short = short

-- ---- A step

module _ (core : CoreState) (slot : ℕ) (live : IsLive core slot) (rules : RulesHold core) where
  stored-sound : (place : ℕ) (kept : Stored) → StoresIn core slot place kept → (k : ℕ)
      → IsSoundWay core.sessions (way_at (stored_at core.ways place kept) k)
  stored-sound place stored.Nothing own k = rules.ways k
  stored-sound place (stored.Bytes address count value) own k =
      let way = way_at core.ways place in
      let sound = rules.ways place in
      set-each (IsSoundWay core.sessions) core.ways place
      (stored_way way address (low_bytes count value)) free_way
      (λ within. record {
        bytes = bytes-written way.bytes (address % 32) (low_bytes count value) sound.bytes
            (bytes-low count value);
        line = sound.line;
        live = λ dirty. elim own [
          | inl its ↦ subst (λ j. is_live (session_of core j).state ≡ true) (sym its) live
          | inr past ↦ absurd (omega arith)
        ];
      }) rules.ways k

  pub stepped-holds : (place : ℕ) (session : Session) (step : Step) → KeepsStep step
      → IsSoundSession core.installs session → is_live session.state ≡ true
      → StoresIn core slot place step.stored
      → RulesHold (core_after_step core slot place session step)
  stepped-holds place session step keeps sound alive own =
      let cells = cells_after_step slot core.cells step in
      let ways = stored_at core.ways place step.stored in
      let ram = given_out core.ram step.released in
      let first = with_cells-holds core rules cells (cells_after-short slot core.cells step keeps
      rules.cells) in
      let second = ways-hold (with_cells core cells) first ways core.pointers
      (stored-sound place step.stored own) in
      let base = record core { cells = cells; ways = ways } in
      let third = with_ram-holds base second ram (given_out-bytes core.ram step.released rules.ram)
      (length-given_out core.ram step.released) in
      let fourth = with_session-holds (record base { ram = ram }) third slot session sound
      (λ _. alive) in
      noted-holds (core_with_session (record base { ram = ram }) slot session) fourth
      (entry.Step (session_of core slot).install step) (live-came core rules slot live, keeps)
      refl

  trapped-holds : (why : Cause) → KeepsCause why → RulesHold (after_trap core slot why).0
  trapped-holds why keeps =
      noted-holds (core_with_session core slot (session_after_pause (session_of core slot)))
      (with_session-holds core rules slot (session_after_pause (session_of core slot))
      (session-on core rules slot live state.Paused ((session_of core slot).epoch + 1)) (λ _. refl))
      (entry.Trap (session_of core slot).install why) (live-came core rules slot live, keeps) refl

-- ---- The whole event

-- the rules hold afterwards, and the cause, if the guest left, has an argument of 32 bits
abbrev pub GoesWell : CoreState × Option Cause → Type 0
GoesWell result = RulesHold result.0 × IfSome result.1 (λ why. Is32Bit (cause_argument why))

trapped-well : (core : CoreState) (slot : ℕ) (why : Cause) → KeepsCause why
    → Is32Bit (cause_argument why) → IsLive core slot → RulesHold core
    → GoesWell (after_trap core slot why)
trapped-well core slot why keeps short live rules =
    (trapped-holds core slot live rules why keeps, short)

rule-short : (why : Rule) → Is32Bit (cause_argument (cause.Stopped why))
rule-short (rule.LineTag line) = lit< tt
rule-short (rule.TreeNode level) = lit< tt
rule-short (rule.RegisterTag reg) = lit< tt
rule-short (rule.RegisterMissing reg) = lit< tt

fault-short : (why : OwnFault) → Is32Bit (cause_argument (cause.Fault why))
fault-short own_fault.Reserved = lit< tt
fault-short _ = lit< tt

after_step-well : (core : CoreState) (slot : ℕ) (interrupt : Bool) (step : Step) → KeepsStep step
    → IsLive core slot → RulesHold core → (end : StepEnd) → step.end ≡ end
    → GoesWell (after_step core slot interrupt end)
after_step-well core slot interrupt step keeps live rules (ended.Call code) is =
    let low : Is32Bit code = (let all = keeps.6 in rw is at all) in trapped-well core slot
    (cause.Call code) low low live rules
after_step-well core slot interrupt step keeps live rules ended.Exit is =
    (gone-holds core slot state.Ended live rules, lit< tt)
after_step-well core slot true step keeps live rules ended.Goes is =
    trapped-well core slot cause.Interrupt tt (lit< tt) live rules
after_step-well core slot false step keeps live rules ended.Goes is = (rules, tt)

module _ (core : CoreState) (slot : ℕ) (interrupt : Bool) (live : IsLive core slot)
    (rules : RulesHold core) (effect : Effect) (short : IsShortEffect effect) (word place : ℕ) where
  abbrev made_step : Step
  made_step =
      step_made (session_of core slot).pc (session_of core slot).npc effect word
      (received_by core.cells core.ram effect.wish)

  abbrev its : Session
  its = session_after_step (session_of core slot) effect made_step

  moved-sound : IsSoundSession core.installs its
  moved-sound =
      let sound = session-sound core rules slot in
      record {
        entry = sound.entry;
        pc = short.pc;
        npc = short.npc;
        handler = handler_after-short (session_of core slot).handler effect.wish sound.handler
            short.wish;
        saved = kept_after-short (session_of core slot).saved effect.wish sound.saved;
        id = sound.id;
        id_length = sound.id_length;
        key = sound.key;
        install = λ _. live-came core rules slot live;
      }

  retires-well : KeepsStep made_step
      → ((address : ℕ) → address_in effect.wish ≡ Some address
      → ((way_at core.ways place).slot ≡ slot) ⊎ (length core.ways ≤ place))
      → GoesWell (retirement core slot interrupt effect word place)
  retires-well keeps own =
      let after = after_retirement core slot place effect made_step in
      let now : IsLive after slot = ap (λ (t : Session). is_live t.state)
      (get_or-set_same core.sessions slot its free (live-within core.sessions slot live))
      ∙ live in
      after_step-well after slot interrupt made_step keeps now
      (stepped-holds core slot live rules place its made_step keeps moved-sound live
      (step-stores core slot place (session_of core slot).pc (session_of core slot).npc effect
      word (received_by core.cells core.ram effect.wish) own))
      made_step.end refl

module _ (v : Versions) (Stands : StandsFor) (law : VersionLaw v Stands)
    (hashes : StoresKeepRules v) (slot : ℕ) (interrupt : Bool) where
  -- an access leaves the session of a slot whose line is ready
  no_parts : Parts v slot (λ core new. Unit {0})
  no_parts = record {
    none = λ core. tt;
    on = λ a b c first then. tt;
    hash = λ core texts. tt;
    accept = λ core line version place ct runs. tt;
    point = λ core line. tt;
    bring = λ core place way clean may. tt;
    seal = λ core place version way dirty is may. tt;
    tear = λ core place torn dirty is. tt;
    stop = λ core why live. tt;
    step = λ core place session step runs goes stores. tt;
  }

  reached : (core : CoreState) (line : ℕ) → IsRunning core slot
      → Reached core slot (access v core slot line).0 (access v core slot line).1
  reached core line runs = (walk_access v slot (λ core new. Unit {0}) no_parts core line runs).1

  data-well : (core : CoreState) (effect : Effect) (result : CoreState × Reach)
      → IsRunning core slot → IsShortEffect effect → Ranged effect
      → Is32Bit (session_of core slot).pc → Is32Bit (session_of core slot).npc
      → Reached core slot result.0 result.1 → Answers result
      → GoesWell (data_reached slot interrupt effect result)
  data-well core effect (new, reach.PageFault page) runs short ranged pc npc came answers =
      trapped-well new slot (cause.Page page) answers.1 answers.1
      (rw (subst (λ c. IsRunning c slot) (sym came) runs) refl) answers.0
  data-well core effect (new, reach.Stopped why) runs short ranged pc npc came answers =
      (answers.0, rule-short why)
  data-well core effect (new, reach.Ready place) runs short ranged pc npc came answers =
      let now : IsRunning new slot = ap (λ (s : Session). s.state) came.0 ∙ runs in
      let word = word_loaded (way_at new.ways place).bytes effect.wish in
      let got = received_by new.cells new.ram effect.wish in
      let sound = session-sound new answers.0 slot in
      retires-well new slot interrupt (rw now refl) answers.0 effect short word place
      (step_made-KeepsStep (session_of new slot).pc (session_of new slot).npc word got sound.pc
      sound.npc (word_loaded-short (way_at new.ways place).bytes effect.wish
      (answers.0.ways place).bytes) (received_by-short new effect.wish answers.0) effect ranged
      short)
      (λ address is. came.1)

  data_of-well : (core : CoreState) (effect : Effect) (address : Option ℕ)
      → address_in effect.wish ≡ address → IsRunning core slot → IsShortEffect effect
      → Ranged effect → RulesHold core
      → GoesWell (data_of v core slot interrupt effect address)
  data_of-well core effect None is runs short ranged rules =
      let sound = session-sound core rules slot in
      retires-well core slot interrupt (rw runs refl) rules effect short 0 0
      (step_made-KeepsStep (session_of core slot).pc (session_of core slot).npc 0
      (received_by core.cells core.ram effect.wish) sound.pc sound.npc (lit< tt)
      (received_by-short core effect.wish rules) effect ranged short)
      (λ address some. absurd (cc))
  data_of-well core effect (Some address) is runs short ranged rules =
      let sound = session-sound core rules slot in
      data-well core effect (access v core slot (address / 32)) runs short ranged sound.pc sound.npc
      (reached core (address / 32) runs)
      (access-holds v Stands law hashes core slot (address / 32)
      (address-low effect.wish address ranged.wish is) (rw runs refl) rules)

  ran-well : (core : CoreState) (word : ℕ) (result : Result Effect OwnFault)
      → word_tried v core slot word ≡ result → IsRunning core slot → RulesHold core
      → GoesWell (after_effect v core slot interrupt result)
  ran-well core word (Err why) is runs rules =
      trapped-well core slot (cause.Fault why) tt (fault-short why) (rw runs refl) rules
  ran-well core word (Ok effect) is runs rules =
      let s = session_of core slot in
      let sound = session-sound core rules slot in
      let found = instruction_or_fault (instruction_of_word word) in
      let fits = known-Fits word in
      let short = tried-IsShortEffect (seen_by slot core.cells) s.saved found s.pc s.npc effect fits
      (seen_by-short core slot rules) sound.saved sound.npc is in
      let ranged = tried-Ranged (seen_by slot core.cells) s.saved found s.pc s.npc effect fits is in
      data_of-well core effect (address_in effect.wish) refl runs short ranged rules

  code-well : (core : CoreState) (result : CoreState × Reach) → IsRunning core slot
      → Reached core slot result.0 result.1 → Answers result
      → GoesWell (code_reached v slot interrupt result)
  code-well core (new, reach.PageFault page) runs came answers =
      trapped-well new slot (cause.Page page) answers.1 answers.1
      (rw (subst (λ c. IsRunning c slot) (sym came) runs) refl) answers.0
  code-well core (new, reach.Stopped why) runs came answers = (answers.0, rule-short why)
  code-well core (new, reach.Ready place) runs came answers =
      let now : IsRunning new slot = ap (λ (s : Session). s.state) came.0 ∙ runs in
      let word = word_in (way_at new.ways place).bytes (session_of new slot).pc in
      ran-well new word (word_tried v new slot word) refl now answers.0

  -- the event of the running guest
  pub guest-well : (core : CoreState) → IsRunning core slot → RulesHold core
      → GoesWell (guest v core slot interrupt)
  unfolding guest
  guest-well core runs rules =
      let pc = (session_of core slot).pc in
      cond_both (is_code pc) (code_reached v slot interrupt (access v core slot (pc / 32)))
      (after_trap core slot (cause.Fault own_fault.Address)) GoesWell
      (λ is. code-well core (access v core slot (pc / 32)) runs (reached core (pc / 32) runs)
      (access-holds v Stands law hashes core slot (pc / 32) (code-low pc is).1 (rw runs refl)
      rules))
      (λ _. trapped-well core slot (cause.Fault own_fault.Address) tt (lit< tt) (rw runs refl)
      rules)
