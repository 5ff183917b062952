mod Readings
mod Gathers
mod Values
mod Drawing
mod Findings
mod Alone
mod Cases
