-- The law: Programs says what each program prints, Sets that the second prints what it printed before document 02's Req 01, and Texts how a
-- program hands its text over (`Said`). Setting, of the reader of the set line, Readings, and `refusal_line` and `Untold` in Texts are working
-- definitions.
pub mod Programs
pub mod Readings
pub mod Sets
pub mod Setting
pub mod Texts
