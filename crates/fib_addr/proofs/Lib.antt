pub mod LongestLaws
pub mod PrefixLaws
pub mod Reading
pub mod RoundTrip
