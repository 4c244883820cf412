-- The crate's own types and their constructors, under names that theorems of other crates can use: no code outside can name or make them.

abbrev pub Kept : Type 0
Kept = Rattle.index.specs.declared.Kept.Kept

abbrev pub Chunk : Type 0
Chunk = Rattle.index.specs.declared.Chunk.Chunk

abbrev pub State : Type 0
State = Rattle.index.specs.declared.State.State

abbrev pub Step : Type 0
Step = Rattle.index.specs.declared.Step.Step

abbrev pub Span : Type 0
Span = Rattle.chunks.specs.declared.Span.Span

abbrev pub Swing : Type 0
Swing = Rattle.blocks.specs.declared.swing.Swing.Swing

abbrev pub Open : State
Open = Rattle.index.specs.declared.State.TheVariants.Open

abbrev pub Closed : State
Closed = Rattle.index.specs.declared.State.TheVariants.Closed

abbrev pub Stopped : Rattle.index.specs.declared.Fault.Fault → State
Stopped x = Rattle.index.specs.declared.State.TheVariants.Stopped x

abbrev pub Scan : Step
Scan = Rattle.index.specs.declared.Step.TheVariants.Scan

abbrev pub Settle : Step
Settle = Rattle.index.specs.declared.Step.TheVariants.Settle

abbrev pub Level : Step
Level = Rattle.index.specs.declared.Step.TheVariants.Level
