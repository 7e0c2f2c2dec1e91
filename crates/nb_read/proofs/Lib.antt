mod Decimals
mod Ips
mod Loops
mod Nets
mod Numbers
mod PortOptions
mod Typed
