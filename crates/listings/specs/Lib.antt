-- The law: Listing says what print answers, Loading what load answers, and RoundTrip what the two give one after the other. How the calls hand
-- an outcome over is `handed` and `Answered` of common. Printing and Loader are working definitions of inner contracts.
pub mod Listing
pub mod Printing
pub mod Loading
pub mod Loader
pub mod RoundTrip
